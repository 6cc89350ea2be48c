-- One character after the other.
use Rattle.std.proofs.Common.{◌≡◌, ℕ, suc, ◌+◌, ◌-◌, ◌<◌, List, refl, arith}
use Rattle.symbol_text.specs.Texts.{◌>>=◌}
use Rattle.rust_names.specs.Escapes.{next_of, unescaped}

-- what is left of the characters begins with one, if any is left
pub unescaped_step : (taken count : ℕ) (bytes text : List ℕ) → taken < count →
    unescaped (count - taken) bytes text
    ≡ (next_of bytes text >>= (λ found. unescaped (count - (taken + 1)) found.0 found.1))
unescaped_step taken count bytes text h =
    let more : count - taken ≡ suc (count - (taken + 1)) = omega arith in rw more refl
