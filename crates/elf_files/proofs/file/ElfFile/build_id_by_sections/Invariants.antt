use Rattle.std.proofs.Common.{◌≡◌, ◌-◌}
use Rattle.elf_files.specs.BuildIds.{section_build_id}
use Rattle.elf_files.specs.SectionViews.{section_in, sections_in}
use Rattle.elf_files.specs.Tables.{entries, first_found}
use Rattle.elf_files.proofs.file.ElfFile.build_id_by_sections.Given as goal

abbrev pub invariant-loop-index : goal.invariant-loop-index
invariant-loop-index l =
    first_found (section_build_id l.self.bytes.now) (entries (section_in l.table) l.index (l.table.count - l.index))
    ≡ first_found (section_build_id l.self.bytes.now) (sections_in l.table)
