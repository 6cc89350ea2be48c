-- Items that are read one after the other, up to the end or to the first error.
--
-- A step reads the start of what is left: an item, the end, or an error.
use Rattle.std.specs.Prelude.{◌≡◌, ◌<◌, ℕ, zero, suc, List, [], ◌∷◌, Option, Some, None, Result, Ok, Err}

-- the outcome of a step: an item and what is left after it, nothing at the end, or an error
abbrev pub Answer : Type 0 → Type 0 → Type 0 → Type 0
Answer S A E = Result (Option (A × S)) E

-- the item of a step and then the others, which are those of what the step left; an error is the last
abbrev pub items_from : {S A E : Type 0} → (S → List (Result A E)) → Answer S A E → List (Result A E)
items_from others (Ok (Some (item, rest))) = Ok item ∷ others rest
items_from others (Ok None) = []
items_from others (Err e) = Err e ∷ []

-- the items of at most n steps
abbrev pub items_within : {S A E : Type 0} → ℕ → (S → Answer S A E) → S → List (Result A E)
items_within zero step s = []
items_within (suc n) step s = items_from (items_within n step) (step s)

-- the items of what is left, if each step makes it smaller
abbrev pub items_of : {S A E : Type 0} → (S → ℕ) → (S → Answer S A E) → S → List (Result A E)
items_of size step s = items_within (suc (size s)) step s

-- what is left after a step and, if it gave an item, after the steps that follow
abbrev pub rest_from : {S A E : Type 0} → (S → S) → S → Answer S A E → S
rest_from after s (Ok (Some (item, rest))) = after rest
rest_from after s (Ok None) = s
rest_from after s (Err e) = s

-- what is left after the items of at most n steps
abbrev pub rest_within : {S A E : Type 0} → ℕ → (S → Answer S A E) → S → S
rest_within zero step s = s
rest_within (suc n) step s = rest_from (rest_within n step) s (step s)

-- what is left after the last item: there the items end, or have their error
abbrev pub rest_of : {S A E : Type 0} → (S → ℕ) → (S → Answer S A E) → S → S
rest_of size step s = rest_within (suc (size s)) step s

-- The items are the one that the first step gives and then those of what it leaves.
abbrev pub ComeByStep : {S A E : Type 0} → (S → ℕ) → (S → Answer S A E) → Type 0
ComeByStep {S} size step = (s : S) → items_of size step s ≡ items_from (items_of size step) (step s)

-- What the items leave is what those after the first step's item leave.
abbrev pub RestComesByStep : {S A E : Type 0} → (S → ℕ) → (S → Answer S A E) → Type 0
RestComesByStep {S} size step = (s : S) → rest_of size step s ≡ rest_from (rest_of size step) s (step s)

-- Each item makes what is left smaller.
pub record Shrinks {S A E : Type 0} (size : S → ℕ) (step : S → Answer S A E) : Type 0 where
  pub smaller : (s rest : S) (item : A) → step s ≡ Ok (Some (item, rest)) → size rest < size s

-- the step that a call took, by what the call gave, as view shows it, and what it left
abbrev pub step_taken : {X S A E : Type 0} → (X → A) → Result (Option X) E → S → Answer S A E
step_taken view (Ok (Some x)) rest = Ok (Some (view x, rest))
step_taken view (Ok None) rest = Ok None
step_taken view (Err e) rest = Err e

-- A call that gave no item left nothing to come.
abbrev pub LeavesNone : {X S A E : Type 0} → Result (Option X) E → Answer S A E → Type 0
LeavesNone (Ok (Some x)) next = Unit {0}
LeavesNone (Ok None) next = next ≡ Ok None
LeavesNone (Err e) next = next ≡ Ok None

-- What was to come begins with what a call gave, as view shows it, and the others are still to come; at the end and after an
-- error nothing is.
abbrev pub GivesNext : {X A E : Type 0} → (X → A) → Result (Option X) E → List (Result A E) → List (Result A E) → Type 0
GivesNext view (Ok (Some x)) before after = before ≡ Ok (view x) ∷ after
GivesNext view (Ok None) before after = (before ≡ []) × (after ≡ [])
GivesNext view (Err e) before after = (before ≡ Err e ∷ []) × (after ≡ [])

-- Each call that takes a step gives the first of the items that were to come, and leaves the others to come.
abbrev pub CallsGiveItems : (X : Type 0) → {S A E : Type 0} → (S → ℕ) → (S → Answer S A E) → Type 0
CallsGiveItems X {S} {A} {E} size step = (view : X → A) (result : Result (Option X) E) (s rest : S)
    → step s ≡ step_taken view result rest → LeavesNone result (step rest)
    → GivesNext view result (items_of size step s) (items_of size step rest)
