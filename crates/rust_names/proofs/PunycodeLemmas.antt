-- One character after the other.
use Rattle.std.proofs.Common.{◌≡◌, ℕ, suc, ◌+◌, ◌-◌, ◌<◌, ◌==◌, Some, length, refl, arith}
use Rattle.std.specs.Prelude.{if◌then◌else◌, nat_le, ◌/◌}
use Rattle.symbol_text.specs.Texts.{◌>>=◌}
use Rattle.rust_names.specs.Punycode.{Decoding, all_inserted, bias_of, inserted, scaled}

-- what is left of the characters begins with one, if any is left
pub inserted_step : (taken most : ℕ) (d : Decoding) → taken < most →
    all_inserted (most - taken) d
    ≡ (if length d.rest == 0 then Some d else (inserted d >>= all_inserted (most - (taken + 1))))
inserted_step taken most d h =
    let more : most - taken ≡ suc (most - (taken + 1)) = omega arith in rw more refl

-- what is left of the turns begins with one, if any is left
pub scaled_step : (taken turns place delta : ℕ) → taken < turns →
    scaled (turns - taken) place delta
    ≡ (if nat_le delta 455 then bias_of place delta else scaled (turns - (taken + 1)) (place + 36) (delta / 35))
scaled_step taken turns place delta h =
    let more : turns - taken ≡ suc (turns - (taken + 1)) = omega arith in rw more refl
