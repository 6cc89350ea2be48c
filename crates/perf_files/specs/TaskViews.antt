-- What contracts see of names.
use Rattle.perf_files.specs.declared.command.Command.{Command}
use Rattle.perf_files.specs.Tasks.{CommandParts}

-- A name, with its bytes.
abbrev pub command_seen : Command → CommandParts
command_seen command = record { thread = command.thread; exec = command.exec; name = command.name.now }
