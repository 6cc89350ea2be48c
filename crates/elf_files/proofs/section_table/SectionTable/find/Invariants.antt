use Rattle.std.proofs.Common.{◌≡◌, ◌-◌}
use Rattle.std.specs.List.{find}
use Rattle.elf_files.specs.SectionViews.{section_in, sections_in}
use Rattle.elf_files.specs.Tables.{entries}
use Rattle.elf_files.proofs.section_table.SectionTable.find.Given as goal

abbrev pub invariant-loop-index : goal.invariant-loop-index
invariant-loop-index g l =
    find (g.T.SectionTest.passes l.test) (entries (section_in l.self) l.index (l.self.count - l.index))
    ≡ find (g.T.SectionTest.passes l.test) (sections_in l.self)
