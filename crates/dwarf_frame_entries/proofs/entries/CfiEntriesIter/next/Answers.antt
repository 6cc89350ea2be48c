use Rattle.dwarf_frame_rows.specs.FrameSection.{frame_section}
use Rattle.dwarf_frame_entries.proofs.EntryLists.{entries-empty}
use Rattle.dwarf_frame_entries.proofs.entries.CfiEntriesIter.next.Goals as goal

pub returns-in-Ok-None-clause-list : goal.returns-in-Ok-None-clause-list
returns-in-Ok-None-clause-list g c =
    let stretch = g.R.Reader.stretch in
    let i = c.self.inside in
    let section = frame_section g.R.Offset.ReaderOffset.limit g.Section._UnwindSectionPrivate.kind (g.Section._UnwindSectionPrivate.size i.section) (stretch (g.Section._UnwindSectionPrivate.reader i.section)) i.bases.now in
    let read = rw c.in-Ok-None.field-0-is at c.in-Ok-None.ensures in
    rw (← c.self.view_is) (read.0, entries-empty section (stretch i.input) (stretch c.empty.new.self) c.empty.ensures)

pub returns-in-Err-clause-list : goal.returns-in-Err-clause-list
returns-in-Err-clause-list g c =
    let stretch = g.R.Reader.stretch in
    let i = c.self.inside in
    let section = frame_section g.R.Offset.ReaderOffset.limit g.Section._UnwindSectionPrivate.kind (g.Section._UnwindSectionPrivate.size i.section) (stretch (g.Section._UnwindSectionPrivate.reader i.section)) i.bases.now in
    let read = c.in-Err.ensures in
    rw (← c.self.view_is) (read.0, entries-empty section (stretch i.input) (stretch c.empty-in-Err.new.self) c.empty-in-Err.ensures)
