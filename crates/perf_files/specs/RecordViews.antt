-- What contracts see of records.
use Rattle.std.specs.Prelude.{ℕ, Option, Result, Ok, Err}
use Rattle.std.specs.Option.{option_map}
use Rattle.perf_files.specs.declared.error.RecordError.{RecordError}
use Rattle.perf_files.specs.declared.record.Record.{Record}
use Rattle.perf_files.specs.Records.{RecordParts}

-- A record, with its bytes.
abbrev pub record_seen : Record → RecordParts
record_seen found = record { offset = found.offset; kind = found.kind; misc = found.misc; payload = found.payload.now }

-- A record that was found, and where the next one begins.
abbrev pub record_and_size : Result (Option (Record × ℕ)) RecordError → Result (Option (RecordParts × ℕ)) RecordError
record_and_size (Ok found) = Ok (option_map (λ (both : Record × ℕ). (record_seen both.0, both.1)) found)
record_and_size (Err error) = Err error
