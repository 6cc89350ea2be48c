-- The bytes of a file, as the memory of a core has them.
use Rattle.std.specs.Prelude.{ℕ, zero, suc, ◌+◌, ◌-◌, ◌^◌, ◌==◌, ◌&&◌, Bool, true, false, nat_le, nat_lt, bytes_eq, if◌then◌else◌, List, [], ◌∷◌, length, Option, Some, None, option_and_then}
use Rattle.std.specs.List.{filter, find}
use Rattle.core_files.specs.CoreFiles.{CoreContents}
use Rattle.core_files.specs.MappedFiles.{FileMapping}
use Rattle.core_files.specs.Memory.{byte_among}
use Rattle.core_files.specs.Ranges.{KnownRange}

-- a mapping is of a file with this name
abbrev pub is_named : List ℕ → FileMapping → Bool
is_named name mapping = bytes_eq mapping.name name

-- the mappings of a file with this name, in their order
abbrev pub mappings_named : List ℕ → List FileMapping → List FileMapping
mappings_named name mappings = filter (is_named name) mappings

-- a mapping alone, if it is of such a file
abbrev pub if_named : List ℕ → FileMapping → List FileMapping
if_named name mapping = mappings_named name (mapping ∷ [])

-- a mapping has the byte at an offset of its file
abbrev pub has_offset : ℕ → FileMapping → Bool
has_offset offset mapping = nat_le mapping.offset offset && nat_lt offset (mapping.offset + (mapping.end - mapping.start))

-- the first mapping that has it
abbrev pub mapping_at : List FileMapping → ℕ → Option FileMapping
mapping_at mappings offset = find (has_offset offset) mappings

-- the address of a byte by a mapping that has it
abbrev pub address_in : ℕ → FileMapping → ℕ
address_in offset mapping = mapping.start + (offset - mapping.offset)

-- the byte at an offset of a file with these mappings: that at its address by the first mapping that has it, if the core's memory has that
abbrev pub byte_of_file : List KnownRange → List FileMapping → ℕ → Option ℕ
byte_of_file segments mappings offset =
    option_and_then (λ mapping. byte_among segments (address_in offset mapping)) (mapping_at mappings offset)

-- the bytes from an offset on up to the first that isn't known, so many at most
abbrev pub known_from : (ℕ → Option ℕ) → ℕ → ℕ → List ℕ
known_from byte offset zero = []
known_from byte offset (suc more) = elim (byte offset) [ Some first ↦ first ∷ known_from byte (offset + 1) more | None ↦ [] ]

-- those from the first byte of a file on, whose offsets have 64 bits
unfoldable pub known_bytes : (ℕ → Option ℕ) → List ℕ
known_bytes byte = known_from byte 0 (2 ^ 64)

-- an ELF file can begin with a byte (gABI, "ELF Identification": EI_MAG0)
abbrev pub can_begin : Option ℕ → Bool
can_begin None = false
can_begin (Some first) = first == 0x7f

-- a file's bytes up to the first that isn't known, if they have the whole header of an ELF file (gABI, "ELF Header")
abbrev pub image_by : (ℕ → Option ℕ) → Option (List ℕ)
image_by byte = if can_begin (byte 0) && nat_le 64 (length (known_bytes byte)) then Some (known_bytes byte) else None

-- each mapping begins where those before it end, or after that, as Linux writes them: no address is of two
abbrev pub are_apart_from : ℕ → List FileMapping → Bool
are_apart_from end [] = true
are_apart_from end (mapping ∷ rest) = nat_le end mapping.start && nat_le mapping.start mapping.end && are_apart_from mapping.end rest

-- the bytes of the file of this name, as the core's memory has them, if no address is of two mappings
abbrev pub file_image : CoreContents → List ℕ → Option (List ℕ)
file_image core name =
    if are_apart_from 0 core.files then image_by (byte_of_file core.segments (mappings_named name core.files)) else None
