-- The first fields of a sample, and what other records end in (Linux, include/uapi/linux/perf_event.h, PERF_RECORD_SAMPLE and
-- struct sample_id).
use Rattle.std.specs.Prelude.{ℕ, Option}
use Rattle.perf_files.specs.declared.attributes.Attributes.{Attributes}
use Rattle.perf_files.specs.declared.field.Field.TheVariants.{Sample}
use Rattle.perf_files.specs.declared.field.SampleField.{SampleField}
use Rattle.perf_files.specs.declared.field.SampleField.TheVariants.{Identifier, InstructionPointer, Thread, Time, Address, Id, StreamId, Cpu, Period}
use Rattle.perf_files.specs.declared.fields.ThreadId.{ThreadId}
use Rattle.perf_files.specs.declared.sample_head.SampleHead.{SampleHead}
use Rattle.perf_files.specs.declared.sample_head.Trailer.{Trailer}
use Rattle.perf_files.specs.Attributes.{has_field}
use Rattle.perf_files.specs.Fields.{Take, ◌>>=◌, given, optional, number_field, thread_field}

-- A number of 64 bits, if samples have it.
unfoldable pub sample_word : Attributes → SampleField → Take (Option ℕ)
sample_word attributes field = optional (has_field attributes field) (number_field 8 (Sample field))

-- Process and thread, if samples have them.
unfoldable pub sample_thread : Attributes → Take (Option ThreadId)
sample_thread attributes = optional (has_field attributes Thread) (thread_field (Sample Thread))

-- The processor, and 32 bits that are reserved.
abbrev pub cpu_field : Take ℕ
cpu_field = do
  cpu ← number_field 4 (Sample Cpu)
  reserved ← number_field 4 (Sample Cpu)
  given cpu

-- The processor, if samples have it.
unfoldable pub sample_cpu : Attributes → Take (Option ℕ)
sample_cpu attributes = optional (has_field attributes Cpu) cpu_field

-- The first fields of a sample.
unfoldable pub head_of : Attributes → Take SampleHead
head_of attributes = do
  identifier ← sample_word attributes Identifier
  instruction_pointer ← sample_word attributes InstructionPointer
  thread ← sample_thread attributes
  time ← sample_word attributes Time
  address ← sample_word attributes Address
  id ← sample_word attributes Id
  stream_id ← sample_word attributes StreamId
  cpu ← sample_cpu attributes
  period ← sample_word attributes Period
  given (record {
    identifier = identifier;
    instruction_pointer = instruction_pointer;
    thread = thread;
    time = time;
    address = address;
    id = id;
    stream_id = stream_id;
    cpu = cpu;
    period = period;
  })

-- The fields of struct sample_id.
unfoldable pub trailer_fields : Attributes → Take Trailer
trailer_fields attributes = do
  thread ← sample_thread attributes
  time ← sample_word attributes Time
  id ← sample_word attributes Id
  stream_id ← sample_word attributes StreamId
  cpu ← sample_cpu attributes
  identifier ← sample_word attributes Identifier
  given (record { thread = thread; time = time; id = id; stream_id = stream_id; cpu = cpu; identifier = identifier })
