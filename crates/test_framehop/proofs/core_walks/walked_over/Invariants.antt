use Rattle.backtrace_walks.specs.SessionViews.{IsReady}
use Rattle.test_framehop.proofs.core_walks.walked_over.Given as goal

abbrev pub invariant-loop : goal.invariant-loop
invariant-loop g l = record { callable : goal.F-IsAlwaysCallable g l.read_stack; ready : IsReady l.session }
