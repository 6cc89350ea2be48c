-- The ends of records that aren't samples (Linux, include/uapi/linux/perf_event.h, struct sample_id).
use Rattle.std.specs.Prelude.{ℕ, ◌+◌, ◌-◌, ◌*◌, ◌/◌, ◌%◌, nat_lt, if◌then◌else◌, List, length, take, drop, None, Ok, Err}
use Rattle.perf_files.specs.declared.attributes.Attributes.{Attributes}
use Rattle.perf_files.specs.declared.error.FieldError.TheVariants.{PastEnd}
use Rattle.perf_files.specs.declared.field.Field.TheVariants as field
use Rattle.perf_files.specs.declared.sample_head.Trailer.{Trailer}
use Rattle.perf_files.specs.Attributes.{sample_id_all}
use Rattle.perf_files.specs.FieldResults.{FieldResult, and_then}
use Rattle.perf_files.specs.Fields.{read_of}
use Rattle.perf_files.specs.SampleHeads.{trailer_fields}

-- The size of the trailer in bytes: a word for each of TID, TIME, ID, CPU, STREAM_ID and IDENTIFIER that samples have.
unfoldable pub trailer_size : Attributes → ℕ
trailer_size attributes =
    let kind = attributes.sample_type in
    if sample_id_all attributes then
    8 * (kind / 2 % 2 + kind / 4 % 2 + kind / 0x40 % 2 + kind / 0x80 % 2 + kind / 0x200 % 2 + kind / 0x10000 % 2)
    else 0

-- The bytes of a record before its trailer, and those of the trailer.
unfoldable pub split_payload : Attributes → List ℕ → FieldResult (List ℕ × List ℕ)
split_payload attributes payload =
    let size = trailer_size attributes in
    if nat_lt (length payload) size then Err (PastEnd field.Trailer) else
    Ok (take (length payload - size) payload, drop (length payload - size) payload)

-- Those before it alone.
abbrev pub body_of : Attributes → List ℕ → FieldResult (List ℕ)
body_of attributes payload = and_then (split_payload attributes payload) (λ parts. Ok parts.0)

-- No trailer.
abbrev pub no_trailer : Trailer
no_trailer = record { thread = None; time = None; id = None; stream_id = None; cpu = None; identifier = None }

-- The trailer.
unfoldable pub trailer_of : Attributes → List ℕ → FieldResult Trailer
trailer_of attributes payload =
    if sample_id_all attributes then and_then (split_payload attributes payload) (λ parts. read_of (trailer_fields attributes) parts.1) else
    Ok no_trailer
