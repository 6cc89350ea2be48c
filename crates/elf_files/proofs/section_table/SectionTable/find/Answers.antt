use Rattle.std.proofs.Common.{◌≡◌, false, sym, ap, ◌∙◌, arith}
use Rattle.elf_files.specs.SectionViews.{section_in}
use Rattle.elf_files.proofs.Tables.{entries-more}
use Rattle.elf_files.proofs.section_table.SectionTable.find.Goals as goal

pub loop-index-preserved : goal.loop-index-preserved
loop-index-preserved g c =
    let table = c.args.self.now in
    let passes = g.T.SectionTest.passes c.args.test.now in
    let missed : passes (section_in table c.loop-index.index) ≡ false = ap passes (sym c.get-section.ensures) ∙ sym c.passes.ensures ∙ c.if-passes.false in
    let here = rw (entries-more (section_in table) c.loop-index.index table.count (omega arith)) at c.loop-index.invariant in
    rw missed at here
