-- What contracts see of the sections of a file.
use Rattle.framehop_modules.specs.Sections.{Sections}
use Rattle.backtrace_files.specs.Sections.{sections_of}
use Rattle.backtrace_files.specs.declared.sections.FileSections.{FileSections}

-- a file's sections by their names
abbrev pub sections_seen : FileSections → Sections
sections_seen sections = sections_of sections.file.bytes.now sections.file.header sections.base_svma
