use Rattle.std.proofs.Common.{◌≡◌, drop}
use Rattle.rust_names.specs.Punycode.{delta_from, delta_of}
use Rattle.rust_names.proofs.punycode.delta_at.Given as goal

-- what is left of the digits makes of the number what all make of the first
abbrev pub invariant-loop-i : goal.invariant-loop-i
invariant-loop-i l = delta_from l.bias l.place l.weight l.sum (drop l.i l.bytes) ≡ delta_of l.start l.bias l.bytes
