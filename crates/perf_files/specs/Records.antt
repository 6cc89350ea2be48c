-- Records (Linux, include/uapi/linux/perf_event.h, struct perf_event_header; tools/perf/Documentation/perf.data-file-format.txt).
use Rattle.std.specs.Prelude.{ℕ, ◌+◌, ◌^◌, ◌==◌, nat_lt, if◌then◌else◌, List, length, take, drop, Option, Some, None, Result, Ok, Err}
use Rattle.std.specs.Int.{next_multiple_of}
use Rattle.perf_files.specs.declared.error.RecordError.{RecordError}
use Rattle.perf_files.specs.declared.error.RecordError.TheVariants.{TooSmall, DataTooLarge, Unreadable}
use Rattle.perf_files.specs.declared.field.Field.TheVariants.{DataSize}
use Rattle.perf_files.specs.declared.record.RecordKind.{RecordKind}
use Rattle.perf_files.specs.declared.record.RecordKind.TheVariants.{Mapping, Lost, Command, Exit, Fork, Sample, Mapping2, LostSamples, Attributes, TracingData, BuildId, AuxTrace, Feature, Compressed, OtherOfKernel, OtherOfPerf}
use Rattle.perf_files.specs.Bytes.{number_at}
use Rattle.perf_files.specs.FieldResults.{FieldResult, and_then}
use Rattle.perf_files.specs.Fields.{read_of, number_field}

-- A record: where it begins in the recording, what it is, its misc bits, and its bytes after the header.
pub record RecordParts : Type 0 where
  pub offset : ℕ
  pub kind : RecordKind
  pub misc : ℕ
  pub payload : List ℕ

-- What a record is, by its number (enum perf_event_type, enum perf_user_event_type): those of perf begin at 64.
abbrev pub kind_of : ℕ → RecordKind
kind_of number =
    if number == 1 then Mapping else
    if number == 2 then Lost else
    if number == 3 then Command else
    if number == 4 then Exit else
    if number == 7 then Fork else
    if number == 9 then Sample else
    if number == 10 then Mapping2 else
    if number == 13 then LostSamples else
    if number == 64 then Attributes else
    if number == 66 then TracingData else
    if number == 67 then BuildId else
    if number == 71 then AuxTrace else
    if number == 80 then Feature else
    if number == 81 then Compressed else
    if number == 83 then Compressed else
    if nat_lt number 64 then OtherOfKernel number else
    OtherOfPerf number

-- The size of a record in bytes, with its header.
abbrev pub record_size : List ℕ → ℕ
record_size bytes = number_at 2 bytes 6

-- What some bytes have of the record that they begin with, which has this size.
abbrev pub record_from : List ℕ → ℕ → ℕ → RecordParts
record_from bytes offset size = record {
  offset = offset;
  kind = kind_of (number_at 4 bytes 0);
  misc = number_at 2 bytes 4;
  payload = drop 8 (take size bytes);
}

-- The same with the size, if they have its header.
abbrev pub head_at : List ℕ → ℕ → Result (Option (RecordParts × ℕ)) RecordError
head_at bytes offset =
    if nat_lt (length bytes) 8 then Ok None else
    if nat_lt (record_size bytes) 8 then Err (TooSmall offset) else
    Ok (Some (record_from bytes offset (record_size bytes), record_size bytes))

-- How many bytes of data follow a record that aren't records: behind PERF_RECORD_HEADER_TRACING_DATA they are padded to 8.
unfoldable pub data_behind : RecordKind → List ℕ → FieldResult ℕ
data_behind TracingData payload = and_then (read_of (number_field 4 DataSize) payload) (λ size. Ok (next_multiple_of size 8))
data_behind AuxTrace payload = read_of (number_field 8 DataSize) payload
data_behind _ payload = Ok 0

-- A record, and where the next one begins.
abbrev pub with_data : RecordParts → ℕ → FieldResult ℕ → Result (Option (RecordParts × ℕ)) RecordError
with_data found size (Ok behind) =
    if nat_lt (behind + size) (2 ^ 64) then Ok (Some (found, behind + size)) else Err (DataTooLarge found.offset)
with_data found size (Err error) = Err (Unreadable found.offset error)

-- A record of which bytes have the head, if they have it whole.
abbrev pub whole_record : List ℕ → Result (Option (RecordParts × ℕ)) RecordError → Result (Option (RecordParts × ℕ)) RecordError
whole_record bytes (Ok (Some head)) =
    if nat_lt (length bytes) head.1 then Ok None else with_data head.0 head.1 (data_behind head.0.kind head.0.payload)
whole_record bytes (Ok None) = Ok None
whole_record bytes (Err error) = Err error

-- The record that some bytes begin with, and how far behind its beginning the next one begins; none if it isn't whole.
unfoldable pub record_at : List ℕ → ℕ → Result (Option (RecordParts × ℕ)) RecordError
record_at bytes offset = whole_record bytes (head_at bytes offset)
