-- The rules of registers, as a map from their numbers, and as the list that a row keeps.
use Rattle.std.specs.Prelude.{◌≡◌, ℕ, ◌<◌, ◌≤◌, List, [], ◌∷◌, Option, Some, None, Result, Ok, Err, ◌==◌, if◌then◌else◌}
use Rattle.std.specs.FinMap.{FinMap, empty, insert}
use Rattle.std.specs.Ordering.{nat_cmp}
use Rattle.dwarf_constants.specs.declared.error.Error.{Error}
use Rattle.dwarf_constants.specs.declared.error.Error.TheVariants.{OutOfMemory, TooManyRegisterRules}
use Rattle.dwarf_frame_rows.specs.declared.rules.RuledRegister.{RuledRegister}

-- a map from the numbers of registers
abbrev pub RuleMap : Type 0 → Type 0
RuleMap V = FinMap nat_cmp V

-- the map of some pairs; of pairs with one register the first counts
abbrev pub map_of : {V : Type 0} → List (RuledRegister V) → RuleMap V
map_of [] = empty
map_of (pair ∷ pairs) = insert (map_of pairs) pair.register.0 pair.rule

-- the map of one pair, or of none
abbrev pub rules_of_one : {V : Type 0} → Option (RuledRegister V) → RuleMap V
rules_of_one None = empty
rules_of_one (Some pair) = map_of (pair ∷ [])

-- the first rule of a register
abbrev pub rule_in : {V : Type 0} → ℕ → List (RuledRegister V) → Option V
rule_in register [] = None
rule_in register (pair ∷ pairs) = if pair.register.0 == register then Some pair.rule else rule_in register pairs

-- No register is in two pairs.
abbrev pub HasEachOnce : {V : Type 0} → List (RuledRegister V) → Type 0
HasEachOnce [] = Unit {0}
HasEachOnce (pair ∷ pairs) = (rule_in pair.register.0 pairs ≡ None) × HasEachOnce pairs

-- what a list with this capacity returns that has to hold this many rules; one that grows fails only if memory runs out
abbrev pub HoldsRules : Option ℕ → ℕ → Result (Unit {0}) Error → Type 0
HoldsRules (Some capacity) count (Ok _) = count ≤ capacity
HoldsRules (Some capacity) count (Err e) = (capacity < count) × (e ≡ TooManyRegisterRules)
HoldsRules None count (Ok _) = Unit {0}
HoldsRules None count (Err e) = e ≡ OutOfMemory
