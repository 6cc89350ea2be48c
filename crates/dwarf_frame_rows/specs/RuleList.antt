-- The rules of a row as a list in the order of the registers' numbers, and where a register is in it.
use Rattle.std.specs.Prelude.{◌≡◌, ℕ, ◌<◌, ◌≤◌, List, [], ◌∷◌, Option, None, Result, Ok, Err, length, take, drop, slice_get, HoldsAt, option_map}
use Rattle.dwarf_frame_rows.specs.declared.rules.RuledRegister.{RuledRegister}

-- A register is below those of all these pairs.
abbrev pub IsBelow : {V : Type 0} → ℕ → List (RuledRegister V) → Type 0
IsBelow register [] = Unit {0}
IsBelow register (pair ∷ pairs) = (register < pair.register.0) × IsBelow register pairs

-- A register is above those of all these pairs.
abbrev pub IsAbove : {V : Type 0} → ℕ → List (RuledRegister V) → Type 0
IsAbove register [] = Unit {0}
IsAbove register (pair ∷ pairs) = (pair.register.0 < register) × IsAbove register pairs

-- The registers increase strictly.
abbrev pub IsIncreasing : {V : Type 0} → List (RuledRegister V) → Type 0
IsIncreasing [] = Unit {0}
IsIncreasing (pair ∷ pairs) = IsBelow pair.register.0 pairs × IsIncreasing pairs

-- The pair of a register is at an index, or would be at it: those before have registers below it, those from it on above.
abbrev pub IsPlaceOf : {V : Type 0} → ℕ → List (RuledRegister V) → Result ℕ ℕ → Type 0
IsPlaceOf register pairs (Ok index) = (index < length pairs) × HoldsAt (λ pair. pair.register.0 ≡ register) pairs index
IsPlaceOf register pairs (Err index) = (index ≤ length pairs) × IsAbove register (take index pairs) × IsBelow register (drop index pairs)

-- the rule of the pair at a place, if there is one
abbrev pub rule_at : {V : Type 0} → List (RuledRegister V) → Result ℕ ℕ → Option V
rule_at pairs (Ok index) = option_map (λ pair. pair.rule) (slice_get pairs index)
rule_at pairs (Err index) = None
