-- Build ids: whether a file is the one that was mapped, or its debug file, by its link too.
use Rattle.std.specs.Prelude.{ℕ, ◌==◌, ◌&&◌, Bool, true, false, not, bytes_eq, if◌then◌else◌, List, Option, Some, None, option_and_then}
use Rattle.std.specs.List.{find}
use Rattle.std.specs.Option.{option_or}
use Rattle.std.specs.Result.{result_ok}
use Rattle.list_laws.specs.First.{first_value}
use Rattle.core_files.specs.CoreFiles.{CoreContents}
use Rattle.core_files.specs.MappedFiles.{FileMapping}
use Rattle.core_files.specs.Ranges.{KnownRange, file_in}
use Rattle.debug_links.specs.Checksums.{checksum_of}
use Rattle.debug_links.specs.Links.{Link, debug_link_of}
use Rattle.elf_files.specs.BuildIds.{build_id}
use Rattle.elf_files.specs.Header.{header_of}
use Rattle.elf_files.specs.declared.header.Header.{Header}
use Rattle.elf_segments.specs.Segments.{has_named_sections}

-- the file that begins at an address of the first range in which one can
abbrev pub file_at : List KnownRange → ℕ → Option (List ℕ)
file_at ranges address = first_value (file_in address) ranges

-- a mapping is of the first bytes of a file with this name
abbrev pub begins_file : List ℕ → FileMapping → Bool
begins_file name mapping = (mapping.offset == 0) && bytes_eq mapping.name name

-- the first such mapping
abbrev pub first_mapping : List FileMapping → List ℕ → Option FileMapping
first_mapping mappings name = find (begins_file name) mappings

-- the build id of a file with this header, if it can be read
abbrev pub readable_id : List ℕ → Header → Option (List ℕ)
readable_id bytes header = option_and_then (λ id. id) (result_ok (build_id bytes header))

-- .. by its segments
abbrev pub id_by_segments : List ℕ → Header → Option (List ℕ)
id_by_segments bytes header = readable_id bytes (record header { section_count = 0 })

-- the build id of a file whose first bytes are there, as they are in memory: by its segments
abbrev pub id_without_sections : List ℕ → Option (List ℕ)
id_without_sections bytes = option_and_then (id_by_segments bytes) (result_ok (header_of bytes))

-- the build id of a file with this header, or if it has none that can be read, nor sections with names, that by its segments
abbrev pub id_with_header : List ℕ → Header → Option (List ℕ)
id_with_header bytes header =
    option_or (readable_id bytes header) (if has_named_sections bytes header then None else id_by_segments bytes header)

-- the build id of a file
abbrev pub build_id_of : List ℕ → Option (List ℕ)
build_id_of bytes = option_and_then (id_with_header bytes) (result_ok (header_of bytes))

-- the build id of the file of this name that was mapped, by what the core has of it from its first byte on
abbrev pub build_id_at : CoreContents → List ℕ → Option (List ℕ)
build_id_at core name =
    option_and_then id_without_sections
    (option_and_then (λ (mapping : FileMapping). file_at core.segments mapping.start) (first_mapping core.files name))

-- the first build id is known, and isn't the second
abbrev pub differ : Option (List ℕ) → Option (List ℕ) → Bool
differ None other = false
differ (Some one) None = true
differ (Some one) (Some other) = not (bytes_eq one other)

-- both build ids are known, and the same
abbrev pub agree : Option (List ℕ) → Option (List ℕ) → Bool
agree None other = false
agree (Some one) None = false
agree (Some one) (Some other) = bytes_eq one other

-- a link is to a file with these bytes: it has their checksum
abbrev pub is_link_to : Option Link → List ℕ → Bool
is_link_to None debug = false
is_link_to (Some link) debug = link.checksum == checksum_of debug

-- a file of this build id has what debuggers read of one with these bytes: both have the same one, or the file has none, and a link to it
abbrev pub is_debug_file_by : Option (List ℕ) → List ℕ → List ℕ → Bool
is_debug_file_by (Some id) bytes debug = agree (Some id) (build_id_of debug)
is_debug_file_by None bytes debug = is_link_to (debug_link_of bytes) debug

-- a file has what debuggers read of one with these bytes (GDB, "Debugging Information in Separate Files")
abbrev pub is_debug_file_of : List ℕ → List ℕ → Bool
is_debug_file_of bytes debug = is_debug_file_by (build_id_of bytes) bytes debug

-- the core has a build id of the file of this name, and the file with these bytes has another one or none
abbrev pub has_other_build_id : CoreContents → List ℕ → List ℕ → Bool
has_other_build_id core name bytes = differ (build_id_at core name) (build_id_of bytes)
