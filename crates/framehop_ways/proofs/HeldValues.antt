-- Values that go up.
use Rattle.std.proofs.Common.{◌≡◌, refl, zero, suc}
use Rattle.std.specs.Prelude.{ℤ, pos, negsuc}
use Rattle.framehop_ways.specs.Values.{moved_by, raised}
use Rattle.framehop_ways.specs.declared.values.Value.{Value}

pub moved_is_raised : (value : Value) (by : ℤ) → (by ≡ pos zero → ⊥) → moved_by value by ≡ raised value by
moved_is_raised value (pos zero) other = absurd (other refl)
moved_is_raised value (pos (suc n)) other = refl
moved_is_raised value (negsuc n) other = refl
