-- The files of a core's process.
use Rattle.std.specs.Prelude.{ℕ, ◌+◌, ◌-◌, ◌^◌, min, codes, if◌then◌else◌, List, [], ◌∷◌, ◌++◌, length, slice_get, Option, Some, None, option_and_then}
use Rattle.std.specs.Option.{option_map, option_to_list}
use Rattle.core_files.specs.Auxv.{auxiliary_value}
use Rattle.core_files.specs.CoreFiles.{CoreContents}
use Rattle.core_files.specs.MappedFiles.{FileMapping}
use Rattle.backtrace_files.specs.BuildIds.{file_at, has_other_build_id, is_debug_file_of}
use Rattle.backtrace_files.specs.Files.{ProcessFile}

-- the bytes that are given for a mapped file, unless the core says that they are another file's
abbrev pub kept_bytes : CoreContents → FileMapping → Option (List ℕ) → Option (List ℕ)
kept_bytes core mapping given =
    option_and_then (λ bytes. if has_other_build_id core mapping.name bytes then None else Some bytes) given

-- the bytes that are given for the debug file of one with these bytes, if they are those of one
abbrev pub kept_debug : List ℕ → Option (List ℕ) → Option (List ℕ)
kept_debug bytes given = option_and_then (λ debug. if is_debug_file_of bytes debug then Some debug else None) given

-- What is given of a mapped file: its bytes, and those of its debug file, as far as they are there.
pub record Given : Type 0 where
  pub bytes : Option (List ℕ)
  pub debug : Option (List ℕ)

-- what is given, or nothing
abbrev pub or_nothing : Option Given → Given
or_nothing (Some given) = given
or_nothing None = record { bytes = None; debug = None }

-- what is given by the number of a mapping
abbrev pub given_at : List Given → ℕ → Given
given_at given number = or_nothing (slice_get given number)

-- a mapping with what is given of its file, as far as it is kept
abbrev pub file_by : CoreContents → FileMapping → Given → ProcessFile
file_by core mapping given =
    let bytes = kept_bytes core mapping given.bytes in
    record { mapping = mapping; bytes = bytes; debug = option_and_then (λ known. kept_debug known given.debug) bytes }

-- mappings with what is given, which are numbered from here
abbrev pub files_from : CoreContents → List Given → ℕ → List FileMapping → List ProcessFile
files_from core given number [] = []
files_from core given number (mapping ∷ mappings) =
    file_by core mapping (given_at given number) ∷ files_from core given (number + 1) mappings

-- mappings with what is given
abbrev pub files_with : CoreContents → List Given → List FileMapping → List ProcessFile
files_with core given mappings = files_from core given 0 mappings

-- the virtual shared object that begins at an address, with the bytes that a segment has from there on
abbrev pub object_at : ℕ → List ℕ → ProcessFile
object_at start bytes = record {
  mapping = record { start = start; end = min (start + length bytes) (2 ^ 64 - 1); offset = 0; name = codes "[vdso]" };
  bytes = Some bytes;
  debug = None;
}

-- the virtual shared object, a file at the address of AT_SYSINFO_EHDR
abbrev pub shared_object : CoreContents → Option ProcessFile
shared_object core =
    option_and_then (λ start. option_map (object_at start) (file_at core.segments start)) (auxiliary_value core.auxv 33)

-- the mapped files, in the order of the core, and then the virtual shared object, if there is one
abbrev pub process_files : CoreContents → List Given → List ProcessFile
process_files core given = files_with core given core.files ++ option_to_list (shared_object core)
