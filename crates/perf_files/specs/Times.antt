-- The order of records by time.
use Rattle.std.specs.Prelude.{ℕ, ◌==◌, if◌then◌else◌, Option, Some, None, Ok}
use Rattle.perf_files.specs.declared.attributes.Attributes.{Attributes}
use Rattle.perf_files.specs.declared.record.RecordKind.{RecordKind}
use Rattle.perf_files.specs.declared.record.RecordKind.TheVariants.{Sample}
use Rattle.perf_files.specs.FieldResults.{FieldResult, and_then}
use Rattle.perf_files.specs.Fields.{read_of}
use Rattle.perf_files.specs.Records.{RecordParts}
use Rattle.perf_files.specs.SampleHeads.{head_of}
use Rattle.perf_files.specs.Trailers.{trailer_of}

-- The time in a payload: of a sample, or of another record of the kernel.
abbrev pub time_by : RecordKind → Attributes → RecordParts → FieldResult (Option ℕ)
time_by Sample attributes found = and_then (read_of (head_of attributes) found.payload) (λ head. Ok head.time)
time_by _ attributes found = and_then (trailer_of attributes found.payload) (λ trailer. Ok trailer.time)

-- When a record was made.
unfoldable pub time_in : Attributes → RecordParts → FieldResult (Option ℕ)
time_in attributes found = time_by found.kind attributes found

-- What records are ordered by: without a time, and with 2^64 - 1, which perf writes for what was there before it, they come first.
abbrev pub sort_key : Option ℕ → ℕ
sort_key None = 0
sort_key (Some time) = if time == 0xffffffffffffffff then 0 else time
