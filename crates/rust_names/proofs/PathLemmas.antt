-- One part of a path after the other.
use Rattle.std.proofs.Common.{◌≡◌, ℕ, suc, ◌+◌, ◌-◌, ◌<◌, Bool, false, List, Some, None, refl, arith}
use Rattle.symbol_text.specs.Texts.{◌>>=◌}
use Rattle.rust_names.specs.Legacy.{path_of, step_of}

-- what is left of the parts begins with one, if any is left
pub path_step : (taken most : ℕ) (is_first : Bool) (bytes text : List ℕ) → taken < most →
    path_of (most - taken) is_first bytes text
    ≡ (step_of is_first bytes text >>= (λ found.
    elim found.0 [ None ↦ Some found.1 | Some left ↦ path_of (most - (taken + 1)) false left found.1 ]))
path_step taken most is_first bytes text h =
    let more : most - taken ≡ suc (most - (taken + 1)) = omega arith in rw more refl
