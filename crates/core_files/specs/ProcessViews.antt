-- What contracts see of a process.
use Rattle.core_files.specs.declared.process_info.ProcessInfo.{ProcessInfo}
use Rattle.core_files.specs.ProcessInfo.{ProcessSaid}

-- A process, with the bytes of its texts.
abbrev pub process_seen : ProcessInfo → ProcessSaid
process_seen process = record { id = process.id; name = process.name.now; arguments = process.arguments.now }
