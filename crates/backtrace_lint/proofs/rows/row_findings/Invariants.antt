use Rattle.std.proofs.Common.{length}
use Rattle.backtrace_lint.proofs.FoundRows.{Finding}
use Rattle.backtrace_lint.proofs.Keeping.{Keeping}
use Rattle.backtrace_lint.proofs.rows.row_findings.Given as goal

abbrev pub invariant-entries : goal.invariant-entries
invariant-entries g l =
    let section = g.Section._UnwindSectionPrivate.frame l.section l.bases in
    record {
      finding : Finding g.S.UnwindContextStorage.limits g.A.DwarfUnwinding.rows.vendor g.A.RowRules.rule_of section l.found l.entries.entries;
      keeping : Keeping section l.cies l.entries.entries;
    }

abbrev pub decreases-entries : goal.decreases-entries
decreases-entries g l = length l.entries.entries
