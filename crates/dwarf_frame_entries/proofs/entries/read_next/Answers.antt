use Rattle.std.proofs.Common.{sym, ◌∙◌, None}
use Rattle.dwarf_frame_entries.specs.EntryViews.{entry_view}
use Rattle.dwarf_frame_rows.specs.FrameSection.{frame_section}
use Rattle.dwarf_frame_entries.proofs.EntryLists.{goes_on-ended, goes_on-entry, goes_on-none, goes_on-passed, goes_on-refused, passed-shorter}
use Rattle.dwarf_frame_entries.proofs.entries.read_next.Goals as goal

pub returns-in-Ok-Some : goal.returns-in-Ok-Some
returns-in-Ok-Some g c =
    let stretch = g.R.Reader.stretch in
    let section = frame_section g.R.Offset.ReaderOffset.limit g.Section._UnwindSectionPrivate.kind (g.Section._UnwindSectionPrivate.size c.args.section.now) (stretch (g.Section._UnwindSectionPrivate.reader c.args.section.now)) c.args.bases.now in
    let read = rw c.in-Ok-Some.field-0-is at c.in-Ok-Some.ensures in
    goes_on-entry section (stretch c.args.input.now) (stretch c.loop-input.input) (stretch c.parse_entry.new.input) (entry_view stretch g.R.Offset.ReaderOffset.value c.in-Ok-Some.entry) c.loop-input.invariant (sym c.is_empty.ensures ∙ c.loop-input-test.true) read

pub returns-in-Err : goal.returns-in-Err
returns-in-Err g c =
    let stretch = g.R.Reader.stretch in
    let section = frame_section g.R.Offset.ReaderOffset.limit g.Section._UnwindSectionPrivate.kind (g.Section._UnwindSectionPrivate.size c.args.section.now) (stretch (g.Section._UnwindSectionPrivate.reader c.args.section.now)) c.args.bases.now in
    goes_on-refused section (stretch c.args.input.now) (stretch c.loop-input.input) c.in-Err.error c.loop-input.invariant (sym c.is_empty.ensures ∙ c.loop-input-test.true) c.in-Err.ensures

pub returns-then-has_zero_terminator : goal.returns-then-has_zero_terminator
returns-then-has_zero_terminator g c =
    let stretch = g.R.Reader.stretch in
    let section = frame_section g.R.Offset.ReaderOffset.limit g.Section._UnwindSectionPrivate.kind (g.Section._UnwindSectionPrivate.size c.args.section.now) (stretch (g.Section._UnwindSectionPrivate.reader c.args.section.now)) c.args.bases.now in
    let read = rw c.in-Ok-None.field-0-is at c.in-Ok-None.ensures in
    goes_on-ended section (stretch c.args.input.now) (stretch c.loop-input.input) (stretch c.parse_entry.new.input) c.loop-input.invariant (sym c.is_empty.ensures ∙ c.loop-input-test.true) read (sym c.has_zero_terminator.ensures ∙ c.if-has_zero_terminator.true)

pub loop-input-preserved : goal.loop-input-preserved
loop-input-preserved g c =
    let stretch = g.R.Reader.stretch in
    let section = frame_section g.R.Offset.ReaderOffset.limit g.Section._UnwindSectionPrivate.kind (g.Section._UnwindSectionPrivate.size c.args.section.now) (stretch (g.Section._UnwindSectionPrivate.reader c.args.section.now)) c.args.bases.now in
    let read = rw c.in-Ok-None.field-0-is at c.in-Ok-None.ensures in
    goes_on-passed section (stretch c.args.input.now) (stretch c.loop-input.input) (stretch c.parse_entry.new.input) c.loop-input.invariant (sym c.is_empty.ensures ∙ c.loop-input-test.true) read (sym c.has_zero_terminator.ensures ∙ c.if-has_zero_terminator.false)

pub loop-input-smaller : goal.loop-input-smaller
loop-input-smaller g c =
    let stretch = g.R.Reader.stretch in
    let section = frame_section g.R.Offset.ReaderOffset.limit g.Section._UnwindSectionPrivate.kind (g.Section._UnwindSectionPrivate.size c.args.section.now) (stretch (g.Section._UnwindSectionPrivate.reader c.args.section.now)) c.args.bases.now in
    let read = rw c.in-Ok-None.field-0-is at c.in-Ok-None.ensures in
    passed-shorter section (stretch c.loop-input.input) (stretch c.parse_entry.new.input) None read

pub returns : goal.returns
returns g c =
    let stretch = g.R.Reader.stretch in
    let section = frame_section g.R.Offset.ReaderOffset.limit g.Section._UnwindSectionPrivate.kind (g.Section._UnwindSectionPrivate.size c.args.section.now) (stretch (g.Section._UnwindSectionPrivate.reader c.args.section.now)) c.args.bases.now in
    goes_on-none section (stretch c.args.input.now) (stretch c.loop-input.input) c.loop-input.invariant (sym c.is_empty.ensures ∙ c.loop-input-test.false)
