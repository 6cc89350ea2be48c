-- Where bytes of a recording are (Linux, tools/perf/Documentation/perf.data-file-format.txt, struct perf_file_section).
use Rattle.std.specs.Prelude.{ℕ, ◌+◌, List}
use Rattle.perf_files.specs.declared.section.Section.{Section}
use Rattle.perf_files.specs.Bytes.{number_at}

-- Where they begin, and how many there are.
abbrev pub section_at : List ℕ → ℕ → Section
section_at bytes at = record { offset = number_at 8 bytes at; size = number_at 8 bytes (at + 8) }
