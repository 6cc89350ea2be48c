use Rattle.std.proofs.Common.{length}
use Rattle.backtrace_lint.proofs.Gathers.{Gathering}
use Rattle.backtrace_lint.proofs.Keeping.{Keeping}
use Rattle.backtrace_lint.proofs.gathered.gather.Given as goal

abbrev pub invariant-entries : goal.invariant-entries
invariant-entries g l =
    let section = g.Section._UnwindSectionPrivate.frame l.section l.bases in
    record {
      gathering : Gathering section l.fdes.items l.offset l.entries.entries;
      keeping : Keeping section l.cies l.entries.entries;
    }

abbrev pub decreases-entries : goal.decreases-entries
decreases-entries g l = length l.entries.entries
