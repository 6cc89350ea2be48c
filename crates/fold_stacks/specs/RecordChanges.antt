-- What records say that changes processes.
use Rattle.std.specs.Prelude.{ℕ, if◌then◌else◌, Option, Some, None, unwrap_or, Ok}
use Rattle.perf_files.specs.FieldResults.{FieldResult, and_then}
use Rattle.perf_files.specs.Mappings.{MappingParts, mapping_of}
use Rattle.perf_files.specs.Records.{RecordParts}
use Rattle.perf_files.specs.Tasks.{CommandParts, command_of, task_of}
use Rattle.perf_files.specs.declared.attributes.Attributes.{Attributes}
use Rattle.perf_files.specs.declared.record.RecordKind.{RecordKind}
use Rattle.perf_files.specs.declared.record.RecordKind.TheVariants.{Mapping, Mapping2, Command, Fork, Exit}
use Rattle.perf_processes.specs.declared.change.Change.{Change}
use Rattle.perf_processes.specs.declared.change.Change.TheVariants.{Mapped, Named, Executed, Started, Ended}
use Rattle.perf_processes.specs.declared.change.MappedFile.{MappedFile}
use Rattle.perf_processes.specs.declared.change.ThreadName.{ThreadName}

-- a mapping of the file with this number
abbrev pub mapped_file : MappingParts → ℕ → MappedFile
mapped_file mapping file = record {
  pid = mapping.thread.pid;
  address = mapping.address;
  size = mapping.size;
  offset = mapping.offset;
  file = file;
}

-- what a mapping changes: nothing if it has no code
abbrev pub mapping_change : ℕ → MappingParts → Option Change
mapping_change file mapping = if mapping.executable then Some (Mapped (mapped_file mapping file)) else None

-- the name with this number of a thread
abbrev pub thread_name : CommandParts → ℕ → ThreadName
thread_name command name = record { thread = command.thread; name = Some name }

-- what a name with this number changes
abbrev pub command_change : ℕ → CommandParts → Change
command_change name command = if command.exec then Executed (thread_name command name) else Named (thread_name command name)

-- what a record of this kind changes, if the name or the file in it has this number
abbrev pub change_by : RecordKind → Attributes → RecordParts → ℕ → FieldResult (Option Change)
change_by Mapping attributes found number = and_then (mapping_of attributes found) (λ mapping. Ok (mapping_change number mapping))
change_by Mapping2 attributes found number = and_then (mapping_of attributes found) (λ mapping. Ok (mapping_change number mapping))
change_by Command attributes found number = and_then (command_of attributes found) (λ command. Ok (Some (command_change number command)))
change_by Fork attributes found number = and_then (task_of attributes found) (λ task. Ok (Some (Started task)))
change_by Exit attributes found number = and_then (task_of attributes found) (λ task. Ok (Some (Ended task)))
change_by _ attributes found number = Ok None

-- the number of a name, or 0
abbrev pub number_named : Option ℕ → ℕ
number_named name = unwrap_or name 0

-- the number of the name or the file in a change
abbrev pub number_in : Option Change → ℕ
number_in (Some (Mapped mapped)) = mapped.file
number_in (Some (Named named)) = number_named named.name
number_in (Some (Executed named)) = number_named named.name
number_in _ = 0
