use Rattle.std.proofs.Common.{◌≡◌, ℕ, ◌-◌, ◌^◌, ◌<◌, length, get_or, vec_len}
use Rattle.std.specs.Prelude.{Some}
use Rattle.core_images.specs.RunViews.{file_byte}
use Rattle.core_images.proofs.image.known_bytes.Given as goal

-- the bytes so far are known
abbrev pub invariant-loop-run : goal.invariant-loop-run
invariant-loop-run l =
    (k : ℕ) → k < length l.image.items → file_byte l.segments l.mappings k ≡ Some (get_or l.image.items k 0)

-- how many more there can be
abbrev pub decreases-loop-run : goal.decreases-loop-run
decreases-loop-run l = 2 ^ 64 - vec_len l.image
