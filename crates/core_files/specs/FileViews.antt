-- What contracts see of mapped files.
use Rattle.std.specs.Prelude.{ℕ, ◌-◌, false, List, [], ◌∷◌, drop, Option, Some, None, Ok}
use Rattle.core_files.specs.declared.mapped_files.MappedFile.{MappedFile}
use Rattle.core_files.specs.declared.mapped_files.MappedFiles.{MappedFiles}
use Rattle.core_files.specs.MappedFiles.{FileMapping, files_from}
use Rattle.core_files.specs.Ranges.{KnownRange}
use Rattle.core_files.specs.Refusals.{Read, result_and_then}

-- A mapped file, with the bytes of its name.
abbrev pub mapping_of : MappedFile → FileMapping
mapping_of file = record { start = file.start; end = file.end; offset = file.offset; name = file.name.now }

-- The addresses of a mapping, with the bytes of the file that are mapped there.
abbrev pub mapped_range : FileMapping → List ℕ → KnownRange
mapped_range file bytes = record { address = file.start; size = file.end - file.start; bytes = drop file.offset bytes; lost = 0; executable = false }

-- How many files are left.
abbrev pub count_left : MappedFiles → ℕ
count_left files = files.count - files.number

-- The files that are left.
abbrev pub files_left : MappedFiles → Read (List FileMapping)
files_left files = files_from files.descriptor.now (count_left files) files.number files.names.now

-- The file that comes next, or none at the end, and those that are left after it.
abbrev pub next_and_left : Option MappedFile → Read (List FileMapping) → Read (List FileMapping)
next_and_left None left = Ok []
next_and_left (Some file) left = result_and_then left (λ files. Ok (mapping_of file ∷ files))
