-- The attributes of an event (Linux, include/uapi/linux/perf_event.h, struct perf_event_attr).
use Rattle.std.specs.Prelude.{ℕ, ◌+◌, ◌-◌, ◌==◌, ◌||◌, nat_lt, if◌then◌else◌, Bool, List, length, take, drop, Ok, Err}
use Rattle.perf_files.specs.declared.attributes.AttributeEntry.{AttributeEntry}
use Rattle.perf_files.specs.declared.attributes.Attributes.{Attributes}
use Rattle.perf_files.specs.declared.error.FieldError.TheVariants.{PastEnd, AttributesSize, UnknownSampleType}
use Rattle.perf_files.specs.declared.field.Field.TheVariants as field
use Rattle.perf_files.specs.declared.field.SampleField.{SampleField}
use Rattle.perf_files.specs.Bytes.{has_bit, number_at}
use Rattle.perf_files.specs.FieldResults.{FieldResult, and_then}
use Rattle.perf_files.specs.Sections.{section_at}
use Rattle.perf_files.specs.Words.{words_in}
use Rattle.perf_files.specs.SampleFields.{sample_bit}

-- Samples have a field.
unfoldable pub has_field : Attributes → SampleField → Bool
has_field attributes field = has_bit attributes.sample_type (sample_bit field)

-- Samples have a weight: a number (PERF_SAMPLE_WEIGHT), or a structure of its size (PERF_SAMPLE_WEIGHT_STRUCT).
unfoldable pub has_weight : Attributes → Bool
has_weight attributes = has_bit attributes.sample_type 0x4000 || has_bit attributes.sample_type 0x1000000

-- Records that aren't samples end in who made them and when (sample_id_all).
abbrev pub sample_id_all : Attributes → Bool
sample_id_all attributes = has_bit attributes.flags 0x40000

-- ---- the attributes in bytes

-- Their size, which is after the type; 0 is the size of the first version (PERF_ATTR_SIZE_VER0).
abbrev pub own_size : List ℕ → ℕ
own_size bytes = if number_at 4 bytes 4 == 0 then 64 else number_at 4 bytes 4

-- A member of so many bytes at a place of the structure; 0 if it isn't within its size.
abbrev pub member : ℕ → List ℕ → ℕ → ℕ → ℕ
member width bytes size at = if nat_lt size (at + width) then 0 else number_at width bytes at

-- The attributes of this size.
unfoldable pub attributes_from : List ℕ → ℕ → Attributes
attributes_from bytes size = record {
  kind = member 4 bytes size 0;
  config = member 8 bytes size 8;
  period = member 8 bytes size 16;
  sample_type = member 8 bytes size 24;
  read_format = member 8 bytes size 32;
  flags = member 8 bytes size 40;
  branch_sample_type = member 8 bytes size 72;
  user_registers = member 8 bytes size 80;
  user_stack = member 4 bytes size 88;
  interrupt_registers = member 8 bytes size 96;
}

-- The attributes that some bytes begin with. Bits from 2^25 on are of fields that aren't known.
unfoldable pub attributes_of : List ℕ → FieldResult Attributes
attributes_of bytes =
    let size = own_size bytes in
    if nat_lt (length bytes) 64 then Err (PastEnd field.Attributes) else
    if nat_lt size 64 || nat_lt (length bytes) size then Err AttributesSize else
    if nat_lt (attributes_from bytes size).sample_type 0x2000000 then Ok (attributes_from bytes size) else Err UnknownSampleType

-- An entry: the attributes, and in the last 16 bytes where the ids are.
unfoldable pub entry_of : List ℕ → FieldResult AttributeEntry
entry_of entry =
    let size = length entry - 16 in
    if nat_lt (length entry) 16 then Err (PastEnd field.Ids) else
    and_then (attributes_of (take size entry)) (λ attributes. Ok (record { attributes = attributes; ids = section_at entry size }))

-- The attributes and the ids after them, in a record of a pipe.
unfoldable pub attributes_and_ids : List ℕ → FieldResult (Attributes × List ℕ)
attributes_and_ids payload = and_then (attributes_of payload) (λ attributes. Ok (attributes, words_in (drop (own_size payload) payload)))
