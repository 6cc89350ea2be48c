use Rattle.std.proofs.Common.{ℕ, ◌<◌, ◌≤◌, ◌-◌}
use Rattle.framehop_analysis.specs.LookBackAarch64.{IsWordOf}
use Rattle.framehop_analysis.proofs.aarch64.instruction_analysis.look_back.is_in_auth_tail_call.Given as goal

abbrev pub invariant-loop-before : goal.invariant-loop-before
invariant-loop-before l = (l.before ≤ 7) × ((earlier : ℕ) → earlier < l.before → ¬ IsWordOf l.bytes l.pc_offset earlier)

abbrev pub decreases-loop-before : goal.decreases-loop-before
decreases-loop-before l = 7 - l.before
