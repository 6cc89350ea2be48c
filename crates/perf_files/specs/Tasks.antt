-- Threads: their names, starts and ends, and what was lost (Linux, include/uapi/linux/perf_event.h, PERF_RECORD_COMM,
-- PERF_RECORD_FORK, PERF_RECORD_EXIT, PERF_RECORD_LOST, PERF_RECORD_LOST_SAMPLES).
use Rattle.std.specs.Prelude.{ℕ, Bool, List}
use Rattle.perf_files.specs.declared.attributes.Attributes.{Attributes}
use Rattle.perf_files.specs.declared.command.Task.{Task}
use Rattle.perf_files.specs.declared.field.Field.TheVariants.{Process, TaskTime, LostCount}
use Rattle.perf_files.specs.declared.fields.ThreadId.{ThreadId}
use Rattle.perf_files.specs.declared.record.RecordKind.{RecordKind}
use Rattle.perf_files.specs.declared.record.RecordKind.TheVariants.{Lost}
use Rattle.perf_files.specs.Bytes.{has_bit}
use Rattle.perf_files.specs.FieldResults.{FieldResult, and_then}
use Rattle.perf_files.specs.Fields.{Take, ◌>>=◌, given, read_of, name_field, number_field, thread_field}
use Rattle.perf_files.specs.Records.{RecordParts}
use Rattle.perf_files.specs.Trailers.{body_of}

-- The name of a thread, and whether it begins another program.
pub record CommandParts : Type 0 where
  pub thread : ThreadId
  pub exec : Bool
  pub name : List ℕ

-- The fields of a name (PERF_RECORD_MISC_COMM_EXEC).
unfoldable pub command_fields : ℕ → Take CommandParts
command_fields misc = do
  thread ← thread_field Process
  name ← name_field
  given (record { thread = thread; exec = has_bit misc 0x2000; name = name })

-- The name that a record says.
unfoldable pub command_of : Attributes → RecordParts → FieldResult CommandParts
command_of attributes found = and_then (body_of attributes found.payload) (λ body. read_of (command_fields found.misc) body)

-- The fields of a start or an end.
unfoldable pub task_fields : Take Task
task_fields = do
  pid ← number_field 4 Process
  parent_pid ← number_field 4 Process
  tid ← number_field 4 Process
  parent_tid ← number_field 4 Process
  time ← number_field 8 TaskTime
  given (record { pid = pid; parent_pid = parent_pid; tid = tid; parent_tid = parent_tid; time = time })

-- The start or the end that a record says.
unfoldable pub task_of : Attributes → RecordParts → FieldResult Task
task_of attributes found = and_then (body_of attributes found.payload) (λ body. read_of task_fields body)

-- How many were lost: after an id (PERF_RECORD_LOST), or at once.
abbrev pub lost_fields : RecordKind → Take ℕ
lost_fields Lost = number_field 8 LostCount >>= (λ id. number_field 8 LostCount)
lost_fields _ = number_field 8 LostCount

-- How many a record says.
unfoldable pub lost_of : RecordParts → FieldResult ℕ
lost_of found = read_of (lost_fields found.kind) found.payload
