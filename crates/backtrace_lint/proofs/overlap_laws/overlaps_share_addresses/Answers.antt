use Rattle.backtrace_lint.proofs.Overlapping.{overlaps-each, overlaps-named, shares-tells}
use Rattle.backtrace_lint.proofs.overlap_laws.overlaps_share_addresses.Goals as goal

pub returns-clause-named : goal.returns-clause-named
returns-clause-named c = overlaps-named

pub returns-clause-each : goal.returns-clause-each
returns-clause-each c = overlaps-each

pub returns-clause-test : goal.returns-clause-test
returns-clause-test c = shares-tells
