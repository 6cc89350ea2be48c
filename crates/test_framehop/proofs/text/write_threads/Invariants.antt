use Rattle.std.proofs.Common.{◌≡◌, false}
use Rattle.test_framehop.proofs.text.write_threads.Given as goal

-- no call of the sink has failed
abbrev pub invariant-loop-number : goal.invariant-loop-number
invariant-loop-number g l = g.W.Sink.has_failed l.sink ≡ false
