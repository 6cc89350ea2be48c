-- What contracts see of what is given.
use Rattle.std.specs.Option.{option_copied}
use Rattle.backtrace_files.specs.ProcessFiles.{Given}
use Rattle.backtrace_files.specs.declared.files.GivenFile.{GivenFile}

-- The bytes of a file and of its debug file.
abbrev pub given_seen : GivenFile → Given
given_seen file = record { bytes = option_copied file.bytes; debug = option_copied file.debug }
