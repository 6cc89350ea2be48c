-- What a search gives: the one value that is as wanted.
use Rattle.std.specs.Prelude.{◌≡◌, ◌⊎◌, ◌↔◌, ℕ, Option, Some}

-- The result is a value exactly if the value is one of these. So there is at most one, and `None` only if there is none.
abbrev pub IsFound : {A : Type 0} → (A → Type 0) → Option A → Type 0
IsFound {A} IsWanted result = (value : A) → (result ≡ Some value) ↔ IsWanted value

-- One of the first, or if there is none of those, one of the second.
abbrev pub IsOfFirst : {A : Type 0} → (A → Type 0) → (A → Type 0) → A → Type 0
IsOfFirst {A} IsFirst IsSecond value = IsFirst value ⊎ (((other : A) → ¬ IsFirst other) × IsSecond value)

-- One value is one of the first, or else of the second; or there is none, and `None` is found.
abbrev pub HasAnswer : {A : Type 0} → (A → Type 0) → (A → Type 0) → Type 0
HasAnswer {A} IsFirst IsSecond = (found : Option A) × IsFound (IsOfFirst IsFirst IsSecond) found

-- There is one of these at most.
abbrev pub AtMostOne : {A : Type 0} → (A → Type 0) → Type 0
AtMostOne {A} P = (one other : A) → P one → P other → one ≡ other

-- Of those that fit, each has a word of its own.
abbrev pub HaveOwnWords : {A : Type 0} → (A → Type 0) → (A → ℕ) → Type 0
HaveOwnWords {A} Fits word = (one other : A) → Fits one → Fits other → word one ≡ word other → one ≡ other
