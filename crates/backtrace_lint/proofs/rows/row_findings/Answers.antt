use Rattle.std.proofs.Common.{rules, ap, refl}
use Rattle.dwarf_frame_entries.specs.declared.entries.Entry.TheVariants as which
use Rattle.backtrace_lint.proofs.FoundRows.{Finding, entry-found}
use Rattle.backtrace_lint.proofs.Keeping.{keeping-all, keeping-fde, keeping-others}
use Rattle.backtrace_lint.proofs.rows.row_findings.Goals as goal

pub entries-init : goal.entries-init
entries-init g c =
    let section = g.Section._UnwindSectionPrivate.frame c.args.section.now c.args.bases.now in
    let list = c.entries-entries.result.entries in
    let finding : Finding g.S.UnwindContextStorage.limits g.A.DwarfUnwinding.rows.vendor g.A.RowRules.rule_of section (record { unsaid = c.new.result; failed = c.new-2.result }) list = search rules in
    record {
      finding = finding;
      keeping = keeping-all section c.new-cies.result list (ap (λ l. l.entries) c.entries-entries.ensures) c.new-cies.ensures;
    }

pub entries-preserved-in-Ok-Some-Cie : goal.entries-preserved-in-Ok-Some-Cie
entries-preserved-in-Ok-Some-Cie g c =
    let section = g.Section._UnwindSectionPrivate.frame c.args.section.now c.args.bases.now in
    let list = rw (c.in-Ok-Some-Cie.field-0-is, c.in-Ok-Some-Cie.field-0-0-is) at c.in-Ok-Some-Cie.ensures.list in
    let finding : Finding g.S.UnwindContextStorage.limits g.A.DwarfUnwinding.rows.vendor g.A.RowRules.rule_of section c.entries.found c.next.new.self.entries = search rules in
    record {
      finding = finding;
      keeping = keeping-others section c.entries.cies c.entries.cies c.entries.entries.entries c.next.new.self.entries _ list refl c.entries.invariant.keeping;
    }

pub add_part-requires-clause-there : goal.add_part-requires-clause-there
add_part-requires-clause-there g c =
    let section = g.Section._UnwindSectionPrivate.frame c.args.section.now c.args.bases.now in
    let list = rw (c.in-Ok-Some-Fde.field-0-is, c.in-Ok-Some-Fde.field-0-0-is) at c.in-Ok-Some-Fde.ensures.list in
    keeping-fde section c.entries.cies c.entries.entries.entries c.next.new.self.entries c.in-Ok-Some-Fde.part list c.entries.invariant.keeping

pub entries-preserved : goal.entries-preserved
entries-preserved g c =
    let section = g.Section._UnwindSectionPrivate.frame c.args.section.now c.args.bases.now in
    let list = rw (c.in-Ok-Some-Fde.field-0-is, c.in-Ok-Some-Fde.field-0-0-is) at c.in-Ok-Some-Fde.ensures.list in
    record {
      finding = entry-found g.S.UnwindContextStorage.limits g.A.DwarfUnwinding.rows.vendor g.A.RowRules.rule_of section c.entries.found c.add_part.new.found c.entries.entries.entries c.next.new.self.entries
          (which.Fde c.in-Ok-Some-Fde.part) list c.in_ok-add_part-in-Ok-Some-Fde.ensures.adds c.entries.invariant.finding;
      keeping = keeping-others section c.entries.cies c.add_part.new.cies c.entries.entries.entries c.next.new.self.entries _ list c.add_part.ensures.same c.entries.invariant.keeping;
    }
