use Rattle.std.proofs.Common.{rules, ap}
use Rattle.dwarf_frame_entries.specs.EntryViews.{entry_view}
use Rattle.backtrace_lint.proofs.Gathers.{Gathering, entry-gathered}
use Rattle.backtrace_lint.proofs.Keeping.{keeping-all, keeping-first, keeping-others}
use Rattle.backtrace_lint.proofs.gathered.gather.Goals as goal

pub entries-init : goal.entries-init
entries-init g c =
    let section = g.Section._UnwindSectionPrivate.frame c.args.section.now c.args.bases.now in
    let list = c.entries-entries.result.entries in
    let gathering : Gathering section c.new-fdes.result.items 0 list = search rules in
    record {
      gathering = gathering;
      keeping = keeping-all section c.new-cies.result list (ap (λ l. l.entries) c.entries-entries.ensures) c.new-cies.ensures;
    }

pub push_entry-requires : goal.push_entry-requires
push_entry-requires g c =
    let section = g.Section._UnwindSectionPrivate.frame c.args.section.now c.args.bases.now in
    let entry = entry_view g.R.Reader.stretch g.R.Offset.ReaderOffset.value c.in-Ok-Some.entry in
    let list = rw c.in-Ok-Some.field-0-is at c.in-Ok-Some.ensures.list in
    keeping-first section g.R.Offset.ReaderOffset.limit g.Section._UnwindSectionPrivate.kind c.entries.cies c.entries.entries.entries c.next.new.self.entries entry list c.entries.invariant.keeping

pub entries-preserved : goal.entries-preserved
entries-preserved g c =
    let section = g.Section._UnwindSectionPrivate.frame c.args.section.now c.args.bases.now in
    let entry = entry_view g.R.Reader.stretch g.R.Offset.ReaderOffset.value c.in-Ok-Some.entry in
    let list = rw c.in-Ok-Some.field-0-is at c.in-Ok-Some.ensures.list in
    record {
      gathering = entry-gathered section c.entries.fdes.items c.push_entry.new.fdes.items c.entries.offset c.offset_after-offset.result c.entries.entries.entries c.next.new.self.entries entry list c.offset_after-offset.ensures c.entries.invariant.gathering
          (rw (g.met.Section._UnwindSectionPrivate.framed c.args.section.now c.args.bases.now) c.in_ok-push_entry-in-Ok-Some.ensures.listed);
      keeping = keeping-others section c.entries.cies c.push_entry.new.cies c.entries.entries.entries c.next.new.self.entries _ list c.push_entry.ensures.same c.entries.invariant.keeping;
    }
