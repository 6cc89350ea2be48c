-- What contracts see of the header of a core.
use Rattle.std.specs.Prelude.{◌≡◌, ℕ, List, Ok, Err}
use Rattle.elf_files.specs.declared.file.ElfFile.{ElfFile}
use Rattle.core_files.specs.CoreFiles.{core_header}
use Rattle.core_files.specs.Refusals.{CoreResult}

-- A file is the core with these bytes, or why there is none.
abbrev pub IsCore : CoreResult ElfFile → List ℕ → Type 0
IsCore (Ok file) bytes = (file.bytes.now ≡ bytes) × (core_header bytes ≡ Ok file.header)
IsCore (Err error) bytes = core_header bytes ≡ Err error
