-- The last function that contains an address.
use Rattle.std.proofs.Common.{◌≡◌, ℕ, zero, suc, ◌+◌, ◌<◌, ◌≤◌, true, false, List, [], ◌∷◌, ◌++◌, length, get_or, take, Some, None, refl, ap, ◌∙◌, append-nil, arith}
use Rattle.std.specs.List.{filter}
use Rattle.std.proofs.lemmas.Bool.Decides.{nat_tests}
use Rattle.std.proofs.lemmas.List.Elements.{filter_more}
use Rattle.list_laws.proofs.Laws.{by_case, last_of-push}
use Rattle.list_laws.specs.Last.{last_of}
use Rattle.function_index.specs.Functions.{has_address, last_at}
use Rattle.function_index.specs.declared.functions.RankedFunction.{RankedFunction}

pub ends-before : (address : ℕ) (function : RankedFunction) → function.entry.last < address → has_address address function ≡ false
ends-before address function below = grind (arith, nat_tests)

pub begins-after : (address : ℕ) (function : RankedFunction) → address < function.entry.first → has_address address function ≡ false
begins-after address function above = grind (arith, nat_tests)

-- none is among the first functions if none of these contains the address
none-in : (address : ℕ) (functions : List RankedFunction) (count : ℕ)
    → ((k : ℕ) (d : RankedFunction) → k < count → k < length functions → has_address address (get_or functions k d) ≡ false)
    → filter (has_address address) (take count functions) ≡ []
none-in address [] zero misses = refl
none-in address [] (suc count) misses = refl
none-in address (function ∷ functions) zero misses = refl
none-in address (function ∷ functions) (suc count) misses =
    let here : has_address address function ≡ false = misses 0 function (omega arith) (omega arith) in
    rw here (none-in address functions count (λ k d below within. misses (suc k) d (omega arith) (omega arith)))

pub last-none : (address : ℕ) (functions : List RankedFunction) (count : ℕ)
    → ((k : ℕ) (d : RankedFunction) → k < count → k < length functions → has_address address (get_or functions k d) ≡ false)
    → last_at address (take count functions) ≡ None
last-none address functions count misses = ap last_of (none-in address functions count misses)

-- those after the first ones don't count if none of them contains the address
behind : (address : ℕ) (functions : List RankedFunction) (count : ℕ)
    → ((k : ℕ) (d : RankedFunction) → count ≤ k → k < length functions → has_address address (get_or functions k d) ≡ false)
    → filter (has_address address) (take count functions) ≡ filter (has_address address) functions
behind address [] zero misses = refl
behind address [] (suc count) misses = refl
behind address (function ∷ functions) zero misses =
    let here : has_address address function ≡ false = misses 0 function (omega arith) (omega arith) in
    rw here (behind address functions zero (λ k d above within. misses (suc k) d (omega arith) (omega arith)))
behind address (function ∷ functions) (suc count) misses =
    let others = behind address functions count (λ k d above within. misses (suc k) d (omega arith) (omega arith)) in
    by_case (has_address address function)
    (λ is. rw is (ap (λ (found : List RankedFunction). function ∷ found) others))
    (λ is. rw is others)

pub last-behind : (address : ℕ) (functions : List RankedFunction) (count : ℕ)
    → ((k : ℕ) (d : RankedFunction) → count ≤ k → k < length functions → has_address address (get_or functions k d) ≡ false)
    → last_at address (take count functions) ≡ last_at address functions
last-behind address functions count misses = ap last_of (behind address functions count misses)

-- the last of the first functions contains the address, or doesn't count
pub last-here : (address : ℕ) (functions : List RankedFunction) (i : ℕ) (d : RankedFunction) → i < length functions
    → has_address address (get_or functions i d) ≡ true → last_at address (take (i + 1) functions) ≡ Some (get_or functions i d)
last-here address functions i d within is =
    let before = filter (has_address address) (take i functions) in
    let more : filter (has_address address) (take (i + 1) functions) ≡ before ++ get_or functions i d ∷ [] =
    filter_more (has_address address) functions i d within ∙ (rw is refl) in
    ap last_of more ∙ last_of-push before (get_or functions i d)

pub last-skip : (address : ℕ) (functions : List RankedFunction) (i : ℕ) (d : RankedFunction) → i < length functions
    → has_address address (get_or functions i d) ≡ false → last_at address (take (i + 1) functions) ≡ last_at address (take i functions)
last-skip address functions i d within is =
    let before = filter (has_address address) (take i functions) in
    let same : filter (has_address address) (take (i + 1) functions) ≡ before =
    filter_more (has_address address) functions i d within ∙ (rw is (append-nil before)) in
    ap last_of same
