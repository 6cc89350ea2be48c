-- How far functions reach.
use Rattle.std.proofs.Common.{◌≡◌, ℕ, zero, suc, ◌<◌, ◌≤◌, List, [], ◌∷◌, length, get_or, refl, ap, arith}
use Rattle.std.specs.Prelude.{max}
use Rattle.function_index.specs.Functions.{reaches_from}
use Rattle.function_index.specs.declared.functions.RankedFunction.{RankedFunction}

pub length_reaches : (reach : ℕ) (functions : List RankedFunction) → length (reaches_from reach functions) ≡ length functions
length_reaches reach [] = refl
length_reaches reach (function ∷ functions) = ap suc (length_reaches (max reach function.entry.last) functions)

above : (reach : ℕ) (functions : List RankedFunction) (i : ℕ) → i < length functions → reach ≤ get_or (reaches_from reach functions) i 0
above reach [] i within = absurd (omega arith)
above reach (function ∷ functions) zero within = omega arith
above reach (function ∷ functions) (suc i) within =
    let others = above (max reach function.entry.last) functions i (omega arith) in omega (arith, others)

-- a function doesn't reach above those up to it or to a later one
pub reaches-above : (reach : ℕ) (functions : List RankedFunction) (k i : ℕ) (d : RankedFunction) → k ≤ i → i < length functions
    → (get_or functions k d).entry.last ≤ get_or (reaches_from reach functions) i 0
reaches-above reach [] k i d up within = absurd (omega arith)
reaches-above reach (function ∷ functions) zero zero d up within = omega arith
reaches-above reach (function ∷ functions) zero (suc i) d up within =
    let others = above (max reach function.entry.last) functions i (omega arith) in omega (arith, others)
reaches-above reach (function ∷ functions) (suc k) zero d up within = absurd (omega arith)
reaches-above reach (function ∷ functions) (suc k) (suc i) d up within =
    reaches-above (max reach function.entry.last) functions k i d (omega arith) (omega arith)
