-- The elements of a list with the greatest key.
use Rattle.std.specs.Prelude.{ℕ, List, Bool, Option, Some, None, nat_le, nat_lt, if◌then◌else◌}
use Rattle.std.specs.List.{filter, find, list_all}
use Rattle.list_laws.specs.Last.{last_of}

-- no element of the list has a greater key than this one
abbrev pub is_greatest : {A : Type 0} → (A → ℕ) → List A → A → Bool
is_greatest key xs x = list_all (λ other. nat_le (key other) (key x)) xs

-- of the elements with the greatest key, the first
abbrev pub first_greatest : {A : Type 0} → (A → ℕ) → List A → Option A
first_greatest key xs = find (is_greatest key xs) xs

-- of the elements with the greatest key, the last
abbrev pub last_greatest : {A : Type 0} → (A → ℕ) → List A → Option A
last_greatest key xs = last_of (filter (is_greatest key xs) xs)

-- of two elements the one with the greater key, or the first
abbrev pub greater : {A : Type 0} → (A → ℕ) → A → A → A
greater key first second = if nat_lt (key first) (key second) then second else first

-- of two elements that there may be, the one with the greater key, or the first
abbrev pub greater_of : {A : Type 0} → (A → ℕ) → Option A → Option A → Option A
greater_of key None second = second
greater_of key (Some first) None = Some first
greater_of key (Some first) (Some second) = Some (greater key first second)
