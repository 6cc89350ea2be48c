use Rattle.std.proofs.Common.{◌≡◌, ◌++◌, replicate}
use Rattle.core_images.proofs.image.push_zeros.Given as goal

abbrev pub invariant-loop-i : goal.invariant-loop-i
invariant-loop-i l = l.image.items ≡ l.fn.image.items ++ replicate l.i 0
