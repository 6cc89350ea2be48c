use Rattle.std.proofs.Common.{ℕ, ◌≢◌, ◌≤◌, ◌<◌, ◌^◌}
use Rattle.framehop_rules.proofs.rule_cache.SlotCount.new.Given as goal

-- no smaller power is the number
abbrev pub invariant-loop-exponent : goal.invariant-loop-exponent
invariant-loop-exponent l = (k : ℕ) → 1 ≤ k → k < l.exponent → l.slots ≢ 2 ^ k
