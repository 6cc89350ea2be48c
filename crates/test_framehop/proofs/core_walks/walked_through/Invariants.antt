use Rattle.backtrace_walks.specs.SessionViews.{IsReady}
use Rattle.test_framehop.proofs.core_walks.walked_through.Given as goal

abbrev pub invariant-loop : goal.invariant-loop
invariant-loop g l = IsReady l.session
