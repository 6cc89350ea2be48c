-- Which event a record is of.
use Rattle.std.specs.Prelude.{ℕ, ◌-◌, ◌==◌, ◌||◌, ◌&&◌, Bool, true, false, nat_lt, if◌then◌else◌, List, [], ◌∷◌, length, Option, Some, None, Result, Ok, Err, position}
use Rattle.std.specs.List.{list_all, list_any}
use Rattle.perf_files.specs.declared.attributes.Attributes.{Attributes}
use Rattle.perf_files.specs.declared.error.EventError.{EventError}
use Rattle.perf_files.specs.declared.error.EventError.TheVariants.{NoEvent, MixedLayouts, UnknownId, Unreadable}
use Rattle.perf_files.specs.declared.error.FieldError.TheVariants.{PastEnd}
use Rattle.perf_files.specs.declared.event.Event.{Event}
use Rattle.perf_files.specs.declared.field.Field.TheVariants as field
use Rattle.perf_files.specs.declared.field.SampleField.TheVariants.{Identifier}
use Rattle.perf_files.specs.declared.record.RecordKind.{RecordKind}
use Rattle.perf_files.specs.declared.record.RecordKind.TheVariants as kind
use Rattle.perf_files.specs.Attributes.{has_field, sample_id_all}
use Rattle.perf_files.specs.Bytes.{number_at}
use Rattle.perf_files.specs.FieldResults.{FieldResult}
use Rattle.perf_files.specs.Fields.{number_field, read_of}
use Rattle.perf_files.specs.Records.{RecordParts}

-- Both have sample_id_all, or neither has.
abbrev pub same_bool : Bool → Bool → Bool
same_bool true b = b
same_bool false true = false
same_bool false false = true

-- Records are laid out by one's attributes as by another's.
abbrev pub is_laid_out_as : Attributes → Attributes → Bool
is_laid_out_as one other =
    (one.sample_type == other.sample_type) && (one.read_format == other.read_format)
    && (one.branch_sample_type == other.branch_sample_type) && (one.user_registers == other.user_registers)
    && (one.interrupt_registers == other.interrupt_registers) && same_bool (sample_id_all one) (sample_id_all other)

-- An event has an id.
abbrev pub has_id : ℕ → Event → Bool
has_id id event = list_any (λ other. other == id) event.ids.items

-- The index of what was found, if it was.
abbrev pub or_unknown : ℕ → Option ℕ → Result ℕ EventError
or_unknown id (Some index) = Ok index
or_unknown id None = Err (UnknownId id)

-- The index of the event with an id. Records that perf made itself have 0: they are the first's.
abbrev pub event_by_id : List Event → ℕ → Result ℕ EventError
event_by_id events id = if id == 0 then Ok 0 else or_unknown id (position (has_id id) events)

-- The last word of a record.
abbrev pub last_word : List ℕ → FieldResult ℕ
last_word payload = if nat_lt (length payload) 8 then Err (PastEnd field.Trailer) else Ok (number_at 8 payload (length payload - 8))

-- The identifier in a payload: PERF_SAMPLE_IDENTIFIER is the first field of a sample, and the last of another record.
abbrev pub id_by : RecordKind → List ℕ → FieldResult ℕ
id_by kind.Sample payload = read_of (number_field 8 (field.Sample Identifier)) payload
id_by _ payload = last_word payload

-- The identifier of a record.
unfoldable pub record_id : RecordParts → FieldResult ℕ
record_id found = id_by found.kind found.payload

-- The event by an identifier that was read.
abbrev pub by_identifier : List Event → FieldResult ℕ → Result ℕ EventError
by_identifier events (Ok id) = event_by_id events id
by_identifier events (Err error) = Err (Unreadable error)

-- The event of a record that has one.
abbrev pub identified : List Event → RecordParts → Result ℕ EventError
identified events found = by_identifier events (record_id found)

-- An event's records have an identifier.
abbrev pub has_identifier : Event → Bool
has_identifier event = has_field event.attributes Identifier

-- All events' have.
abbrev pub all_identified : List Event → Bool
all_identified events = list_all has_identifier events

-- All events' records are laid out alike.
abbrev pub all_alike : List Event → Attributes → Bool
all_alike events first = list_all (λ event. is_laid_out_as event.attributes first) events

-- A record is a sample.
abbrev pub is_sample : RecordKind → Bool
is_sample kind.Sample = true
is_sample _ = false

-- A record says which event it is of.
abbrev pub says_event : RecordParts → Attributes → Bool
says_event found first = is_sample found.kind || sample_id_all first

-- The event of a record, if there are several, by the attributes of the first.
abbrev pub event_among : List Event → Attributes → RecordParts → Result ℕ EventError
event_among events first found =
    if all_identified events then (if says_event found first then identified events found else Ok 0) else
    if all_alike events first then Ok 0 else Err MixedLayouts

-- The index of the event that a record of the kernel is of.
abbrev pub event_of : List Event → RecordParts → Result ℕ EventError
event_of [] found = Err NoEvent
event_of (one ∷ []) found = Ok 0
event_of (first ∷ second ∷ others) found = event_among (first ∷ second ∷ others) first.attributes found
