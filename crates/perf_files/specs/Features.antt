-- Features of a recording (Linux, tools/perf/Documentation/perf.data-file-format.txt, HEADER_ARCH and HEADER_BUILD_ID).
use Rattle.std.specs.Prelude.{ℕ, ◌+◌, ◌*◌, ◌%◌, ◌^◌, ◌||◌, nat_eq, nat_lt, min, count_ones, codes, if◌then◌else◌, List, length, take, slice_index, Option, Some, None, Result, Ok, Err}
use Rattle.std.specs.Cmp.Lexicographic.{pointwise}
use Rattle.perf_files.specs.declared.error.FeatureError.{FeatureError}
use Rattle.perf_files.specs.declared.error.FeatureError.TheVariants.{UnsupportedArchitecture, Unreadable}
use Rattle.perf_files.specs.declared.error.FieldError.TheVariants.{PastEnd}
use Rattle.perf_files.specs.declared.feature.Architecture.{Architecture}
use Rattle.perf_files.specs.declared.feature.Architecture.TheVariants.{X86_64, Aarch64}
use Rattle.perf_files.specs.declared.field.Field.TheVariants as field
use Rattle.perf_files.specs.declared.header.FileHeader.{FileHeader}
use Rattle.perf_files.specs.declared.section.Section.{Section}
use Rattle.perf_files.specs.Bytes.{has_bit}
use Rattle.perf_files.specs.FieldResults.{FieldResult}
use Rattle.perf_files.specs.Fields.{Take, ◌>>=◌, before_zero, given, read_of, bytes_field, name_field, number_field}
use Rattle.perf_files.specs.Records.{RecordParts}
use Rattle.perf_files.specs.Sections.{section_at}

-- Where a feature is: the table has a section for each bit that is set, from the lowest on.
abbrev pub feature_in : FileHeader → List ℕ → ℕ → FieldResult (Option Section)
feature_in header table number =
    let at = 16 * count_ones (header.features % (2 ^ number)) in
    if has_bit header.features (2 ^ number) then
    (if nat_lt (length table) (at + 16) then Err (PastEnd field.Feature) else Ok (Some (section_at table at)))
    else Ok None

-- A text: its size, with the zeros that follow it, and its bytes.
unfoldable pub text_field : Take (List ℕ)
text_field = do
  size ← number_field 4 field.Text
  bytes ← bytes_field size field.Text
  given (before_zero bytes)

-- The machine of a name.
abbrev pub architecture_named : List ℕ → Result Architecture FeatureError
architecture_named name =
    if pointwise nat_eq name (codes "x86_64") then Ok X86_64 else
    if pointwise nat_eq name (codes "aarch64") || pointwise nat_eq name (codes "arm64") then Ok Aarch64 else
    Err UnsupportedArchitecture

-- The machine of a name that was read.
abbrev pub architecture_by : FieldResult (List ℕ) → Result Architecture FeatureError
architecture_by (Ok name) = architecture_named name
architecture_by (Err error) = Err (Unreadable error)

-- The machine that a feature says.
abbrev pub architecture_in : List ℕ → Result Architecture FeatureError
architecture_in feature = architecture_by (read_of text_field feature)

-- The build id of a file, and its name.
pub record FileBuildIdParts : Type 0 where
  pub build_id : List ℕ
  pub name : List ℕ

-- A build id: at most 20 bytes, and in the next byte how many, if that is recorded (PERF_RECORD_MISC_BUILD_ID_SIZE).
abbrev pub build_id_bytes : ℕ → List ℕ → List ℕ
build_id_bytes misc room = take (if has_bit misc 0x8000 then min (slice_index room 20) 20 else 20) room

-- struct build_id_event.
unfoldable pub build_id_fields : ℕ → Take FileBuildIdParts
build_id_fields misc = do
  pid ← number_field 4 field.BuildId
  room ← bytes_field 24 field.BuildId
  name ← name_field
  given (record { build_id = build_id_bytes misc room; name = name })

-- The build id that a record has.
unfoldable pub build_id_of : RecordParts → FieldResult FileBuildIdParts
build_id_of found = read_of (build_id_fields found.misc) found.payload
