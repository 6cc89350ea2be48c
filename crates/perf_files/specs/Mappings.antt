-- Mappings of files (Linux, include/uapi/linux/perf_event.h, PERF_RECORD_MMAP and PERF_RECORD_MMAP2).
use Rattle.std.specs.Prelude.{ℕ, min, not, if◌then◌else◌, Bool, List, [], drop, take, slice_index}
use Rattle.perf_files.specs.declared.attributes.Attributes.{Attributes}
use Rattle.perf_files.specs.declared.field.Field.TheVariants.{Process, MappedRange, MappedFile}
use Rattle.perf_files.specs.declared.fields.ThreadId.{ThreadId}
use Rattle.perf_files.specs.declared.record.RecordKind.{RecordKind}
use Rattle.perf_files.specs.declared.record.RecordKind.TheVariants.{Mapping2}
use Rattle.perf_files.specs.Bytes.{has_bit}
use Rattle.perf_files.specs.FieldResults.{FieldResult, and_then}
use Rattle.perf_files.specs.Fields.{Take, ◌>>=◌, given, read_of, bytes_field, name_field, number_field, thread_field}
use Rattle.perf_files.specs.Records.{RecordParts}
use Rattle.perf_files.specs.Trailers.{body_of}

-- A mapping: who mapped it, its first address, how many there are, where in the file they begin, whether code may be executed, the
-- file's build id (none: no bytes) and its name.
pub record MappingParts : Type 0 where
  pub thread : ThreadId
  pub address : ℕ
  pub size : ℕ
  pub offset : ℕ
  pub executable : Bool
  pub build_id : List ℕ
  pub name : List ℕ

-- The build id, if the record has one (PERF_RECORD_MISC_MMAP_BUILD_ID): its size, three bytes that are reserved, and at most 20 bytes.
abbrev pub mapped_build_id : ℕ → List ℕ → List ℕ
mapped_build_id misc identity = if has_bit misc 0x4000 then take (min (slice_index identity 0) 20) (drop 4 identity) else []

-- The build id of the mapped file, and whether there is code: PERF_RECORD_MMAP says so by a bit (PERF_RECORD_MISC_MMAP_DATA), and
-- PERF_RECORD_MMAP2 by the protection (PROT_EXEC).
unfoldable pub file_fields : RecordKind → ℕ → Take (List ℕ × Bool)
file_fields Mapping2 misc = do
  identity ← bytes_field 24 MappedFile
  protection ← number_field 4 MappedFile
  flags ← number_field 4 MappedFile
  given (mapped_build_id misc identity, has_bit protection 4)
file_fields _ misc = given ([], not (has_bit misc 0x2000))

-- The fields of a mapping.
unfoldable pub mapping_fields : RecordKind → ℕ → Take MappingParts
mapping_fields kind misc = do
  thread ← thread_field Process
  address ← number_field 8 MappedRange
  size ← number_field 8 MappedRange
  offset ← number_field 8 MappedRange
  file ← file_fields kind misc
  name ← name_field
  given (record { thread = thread; address = address; size = size; offset = offset; executable = file.1; build_id = file.0; name = name })

-- The mapping that a record says.
unfoldable pub mapping_of : Attributes → RecordParts → FieldResult MappingParts
mapping_of attributes found = and_then (body_of attributes found.payload) (λ body. read_of (mapping_fields found.kind found.misc) body)
