-- The header of a recording (Linux, tools/perf/Documentation/perf.data-file-format.txt, struct perf_header and struct perf_file_section).
use Rattle.std.specs.Prelude.{ℕ, ◌+◌, ◌-◌, ◌*◌, ◌/◌, ◌^◌, ◌==◌, ◌||◌, not, nat_eq, nat_lt, min, count_ones, if◌then◌else◌, Bool, List, [], ◌∷◌, length, Option, Some, None, Result, Ok, Err}
use Rattle.std.specs.List.{starts_with}
use Rattle.perf_files.specs.declared.error.HeaderError.{HeaderError}
use Rattle.perf_files.specs.declared.error.HeaderError.TheVariants.{NotPerfData, OtherByteOrder, Truncated, HeaderSize, AttributeSize, Directory}
use Rattle.perf_files.specs.declared.header.FileHeader.{FileHeader}
use Rattle.perf_files.specs.declared.header.PerfHeader.{PerfHeader}
use Rattle.perf_files.specs.declared.header.PerfHeader.TheVariants.{Pipe, File}
use Rattle.perf_files.specs.declared.section.Section.{Section}
use Rattle.perf_files.specs.Bytes.{has_bit, number_at}
use Rattle.perf_files.specs.Sections.{section_at}

-- A value, or why there is none.
abbrev pub HeaderResult : Type 0 → Type 0
HeaderResult A = Result A HeaderError

-- An error if a test holds, or else what comes next.
abbrev pub if_not : {A : Type 0} → Bool → HeaderError → HeaderResult A → HeaderResult A
if_not test error next = if test then Err error else next

-- "PERFILE2", and its bytes in the other order.
abbrev pub magic : List ℕ
magic = 0x50 ∷ 0x45 ∷ 0x52 ∷ 0x46 ∷ 0x49 ∷ 0x4c ∷ 0x45 ∷ 0x32 ∷ []

abbrev pub other_order : List ℕ
other_order = 0x32 ∷ 0x45 ∷ 0x4c ∷ 0x49 ∷ 0x46 ∷ 0x52 ∷ 0x45 ∷ 0x50 ∷ []

-- What comes next if a recording begins here.
abbrev pub if_perf_data : {A : Type 0} → List ℕ → HeaderResult A → HeaderResult A
if_perf_data bytes next =
    if_not (starts_with nat_eq bytes other_order) (OtherByteOrder 0) (
    if_not (not (starts_with nat_eq bytes magic)) (NotPerfData 0) (
    if_not (nat_lt (length bytes) 16) (Truncated 0) next))

-- The header of a file. Its attributes have room for the 64 bytes of the first version's and the 16 of where the ids are, and its records
-- aren't in other files (HEADER_DIR_FORMAT).
abbrev pub file_header : List ℕ → HeaderResult PerfHeader
file_header bytes =
    if_not (nat_lt (number_at 8 bytes 8) 104) (HeaderSize 8) (
    if_not (nat_lt (length bytes) 104) (Truncated 0) (
    if_not (nat_lt (number_at 8 bytes 16) 80) (AttributeSize 16) (
    if_not (has_bit (number_at 8 bytes 72) 0x1000000) (Directory 72) (
    Ok (File (record {
      attribute_size = number_at 8 bytes 16;
      attributes = section_at bytes 24;
      «data» = section_at bytes 40;
      features = number_at 8 bytes 72;
    }))))))

-- The header: one of 16 bytes is a pipe's.
unfoldable pub header_of : List ℕ → HeaderResult PerfHeader
header_of bytes = if_perf_data bytes (if number_at 8 bytes 8 == 16 then Ok Pipe else file_header bytes)

-- How many entries with attributes there are.
abbrev pub attribute_count : FileHeader → ℕ
attribute_count header = header.attributes.size / header.attribute_size

-- The bytes of the records of a file of this size: of one that was cut off, or whose size wasn't written, those that are left.
abbrev pub data_in : FileHeader → ℕ → Section
data_in header file_size =
    let offset = min header.data.offset file_size in
    let left = file_size - offset in
    record { offset = offset; size = if (header.data.size == 0) || nat_lt left header.data.size then left else header.data.size }

-- Where the features are listed: behind the records.
abbrev pub feature_table : FileHeader → Option Section
feature_table header =
    if nat_lt (header.data.offset + header.data.size) (2 ^ 64) then
    Some (record { offset = header.data.offset + header.data.size; size = 16 * count_ones header.features })
    else None
