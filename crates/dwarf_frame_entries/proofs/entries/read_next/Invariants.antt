use Rattle.std.proofs.Common.{length}
use Rattle.dwarf_frame_rows.specs.FrameSection.{frame_section}
use Rattle.dwarf_frame_entries.proofs.EntryLists.{GoesOnAt}
use Rattle.dwarf_frame_entries.proofs.entries.read_next.Given as goal

abbrev pub invariant-loop-input : goal.invariant-loop-input
invariant-loop-input g l =
    let stretch = g.R.Reader.stretch in
    let whole = stretch (g.Section._UnwindSectionPrivate.reader l.section) in
    let section = frame_section g.R.Offset.ReaderOffset.limit g.Section._UnwindSectionPrivate.kind (g.Section._UnwindSectionPrivate.size l.section) whole l.bases in
    GoesOnAt section (stretch l.fn.input) (stretch l.input)

abbrev pub decreases-loop-input : goal.decreases-loop-input
decreases-loop-input g l = length (g.R.Reader.stretch l.input).bytes
