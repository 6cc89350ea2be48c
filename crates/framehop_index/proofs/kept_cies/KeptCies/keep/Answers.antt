-- A CIE of a section is kept among the first of the section's.
use Rattle.std.proofs.Common.{◌≡◌, ◌++◌, [], ◌∷◌, rules, arith}
use Rattle.dwarf_frame_rows.specs.FrameSection.{FrameSection}
use Rattle.dwarf_frame_entries.specs.Entries.{Cie}
use Rattle.dwarf_frame_entries.specs.EntryViews.{cie_view}
use Rattle.framehop_index.specs.declared.kept_cies.KeptCies.{KeptCies}
use Rattle.framehop_index.proofs.KeptCies.{keeps-next, stays-full}
use Rattle.framehop_index.proofs.kept_cies.KeptCies.keep.Goals as goal

pub returns-then-len-ge-MOST : goal.returns-then-len-ge-MOST
returns-then-len-ge-MOST g c bases offsets at are =
    let section : FrameSection = g.Section._UnwindSectionPrivate.frame c.args.section.now bases in
    stays-full section (g.R.Offset.ReaderOffset.value c.args.cie.now.head.offset) offsets c.args.self.now (omega arith) are

pub returns : goal.returns
returns g c bases offsets at are =
    let section : FrameSection = g.Section._UnwindSectionPrivate.frame c.args.section.now bases in
    let cie : Cie = cie_view g.R.Reader.stretch g.R.Offset.ReaderOffset.value c.args.cie.now in
    let new : KeptCies = record { cies = c.push.new.self } in
    let pushed : c.push.new.self.items ≡ c.args.self.now.cies.items ++ c.in-Some.kept ∷ [] = search rules in
    keeps-next section cie offsets c.args.self.now new c.in-Some.kept (omega arith) pushed at (c.in-Some.ensures.kept bases cie.head.offset at) are
