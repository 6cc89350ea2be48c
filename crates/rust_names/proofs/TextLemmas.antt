-- One lifetime after the other.
use Rattle.std.proofs.Common.{◌≡◌, ℕ, suc, ◌+◌, ◌-◌, ◌<◌, List, refl, arith}
use Rattle.symbol_text.specs.Texts.{◌>>=◌}
use Rattle.rust_names.specs.Texts.{more_bound_from, next_bound_appended}

-- what is left of the lifetimes begins with one, if any is left
pub more_bound_step : (taken count index : ℕ) (text : List ℕ) → taken < count →
    more_bound_from index (count - taken) text
    ≡ (next_bound_appended index text >>= (λ more. more_bound_from (index + 1) (count - (taken + 1)) more))
more_bound_step taken count index text h =
    let more : count - taken ≡ suc (count - (taken + 1)) = omega arith in rw more refl
