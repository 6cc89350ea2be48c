-- Values by the numbers that they were given, in their order, while they are kept in slots that are used again.
use Rattle.std.specs.Prelude.{ℕ, zero, suc, ◌≡◌, ◌<◌, List, [], ◌∷◌, ◌++◌, length, get_or, map, Bool, Option, Some, None, option_map, is_some, IfSome, ◌==◌, if◌then◌else◌}
use Rattle.std.specs.List.{All}

-- what is held under a number: nothing if the number was not given yet, or if its value was let go
abbrev pub held : {X : Type 0} → List (Option X) → ℕ → Option X
held [] number = None
held (x ∷ xs) zero = x
held (x ∷ xs) (suc number) = held xs number

-- something is held under a number
abbrev pub is_held : {X : Type 0} → List (Option X) → ℕ → Bool
is_held values number = is_some (held values number)

-- a value by its being there alone
abbrev pub mark : {X : Type 0} → X → Unit {0}
mark value = tt

-- the numbers that were given, and under which of them something is held
abbrev pub marks : {X : Type 0} → List (Option X) → List (Option (Unit {0}))
marks values = map (option_map mark) values

-- what is held under a number is changed, if something is
abbrev pub with_changed : {X : Type 0} → (X → X) → List (Option X) → ℕ → List (Option X)
with_changed change [] number = []
with_changed change (x ∷ xs) zero = option_map change x ∷ xs
with_changed change (x ∷ xs) (suc number) = x ∷ with_changed change xs number

-- a statement about each value that is held
abbrev pub AllHeld : {X : Type 0} → (X → Type 0) → List (Option X) → Type 0
AllHeld Statement values = All (λ value. IfSome value Statement) values

-- what the slot of a number has
abbrev pub in_slot_of : {X : Type 0} → List ℕ → List (Option X) → ℕ → Option X
in_slot_of [] values number = None
in_slot_of (n ∷ ns) [] number = None
in_slot_of (n ∷ ns) (x ∷ xs) number = if n == number then x else in_slot_of ns xs number

-- what a function gives for each number below one
abbrev pub for_each_below : {X : Type 0} → ℕ → (ℕ → X) → List X
for_each_below zero f = []
for_each_below (suc n) f = for_each_below n f ++ f n ∷ []

-- the values of slots by their numbers, which are below the next one
abbrev pub by_number_of : {X : Type 0} → List ℕ → List (Option X) → ℕ → List (Option X)
by_number_of numbers values next = for_each_below next (in_slot_of numbers values)

-- no two slots have one number
abbrev pub AreApart : List ℕ → Type 0
AreApart numbers = (i j : ℕ) → i < length numbers → j < length numbers → get_or numbers i 0 ≡ get_or numbers j 0 → i ≡ j

-- Each slot has a number of its own, which was given already.
pub record AreNumbered {X : Type 0} (numbers : List ℕ) (values : List (Option X)) (next : ℕ) : Type 0 where
  pub each : length numbers ≡ length values
  pub given : All (λ number. number < next) numbers
  pub apart : AreApart numbers
