use Rattle.std.proofs.Common.{◌≡◌, ◌++◌, drop, map}
use Rattle.fold.specs.Order.{replaced}
use Rattle.fold.proofs.output.replaced.Given as goal

-- what was made, with the bytes of the text that are left
abbrev pub invariant-loop-byte : goal.invariant-loop-byte
invariant-loop-byte l = l.made.items ++ map (replaced l.from l.to) (drop l.byte-index l.text) ≡ map (replaced l.from l.to) l.text
