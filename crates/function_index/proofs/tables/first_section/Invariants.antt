use Rattle.std.proofs.Common.{◌≡◌, ◌-◌}
use Rattle.std.specs.List.{find}
use Rattle.elf_files.specs.Sections.{all_sections, section_of}
use Rattle.elf_files.specs.Tables.{entries}
use Rattle.function_index.specs.Tables.{has_symbols}
use Rattle.function_index.proofs.tables.first_section.Given as goal

-- the first among those that are left is the first of all
abbrev pub invariant-loop-index : goal.invariant-loop-index
invariant-loop-index l =
    find (λ section. has_symbols l.dynamic section.kind)
    (entries (section_of l.file.bytes.now l.file.header) l.index (l.file.header.section_count - l.index))
    ≡ find (λ section. has_symbols l.dynamic section.kind) (all_sections l.file.bytes.now l.file.header)
