-- What contracts see of mapped files.
use Rattle.std.specs.Prelude.{List, map}
use Rattle.std.specs.Option.{option_copied, option_to_list}
use Rattle.core_files.specs.FileViews.{mapping_of}
use Rattle.core_files.specs.Ranges.{KnownRange}
use Rattle.backtrace_files.specs.Files.{CodeOfFile, ProcessFile, range_of}
use Rattle.backtrace_files.specs.declared.code.LoadedCode.{LoadedCode}
use Rattle.backtrace_files.specs.declared.loaded_file.LoadedFile.{LoadedFile}

-- A mapped file, with its bytes and those of its debug file, if they are there.
abbrev pub file_seen : LoadedFile → ProcessFile
file_seen file = record { mapping = mapping_of file.mapping; bytes = option_copied file.bytes; debug = option_copied file.debug }

-- Mapped files.
abbrev pub files_seen : List LoadedFile → List ProcessFile
files_seen files = map file_seen files

-- What a file has of the memory of its process, if its bytes are there.
abbrev pub range_seen : LoadedFile → List KnownRange
range_seen file = option_to_list (range_of (file_seen file))

-- The code of a file as it is loaded: its bytes, its header, and where the segment with the code begins.
abbrev pub code_seen : LoadedCode → CodeOfFile
code_seen code = record {
  bytes = code.file.bytes.now;
  header = code.file.header;
  base_svma = code.base_svma;
  base_avma = code.base_avma;
}
