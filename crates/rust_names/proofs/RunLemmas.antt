-- One step after the other.
use Rattle.std.proofs.Common.{◌≡◌, ℕ, suc, ◌+◌, ◌-◌, ◌<◌, Some, refl, arith}
use Rattle.std.specs.Prelude.{if◌then◌else◌}
use Rattle.symbol_text.specs.Texts.{◌>>=◌}
use Rattle.rust_names.specs.State.{State}
use Rattle.rust_names.specs.Runs.{advanced, run}

-- what is left of the steps begins with one, if any is left
pub run_step : (taken steps : ℕ) (s : State) → taken < steps →
    run (steps - taken) s ≡ (advanced s >>= (λ next. if next.0 then run (steps - (taken + 1)) next.1 else Some next.1))
run_step taken steps s h =
    let more : steps - taken ≡ suc (steps - (taken + 1)) = omega arith in rw more refl
