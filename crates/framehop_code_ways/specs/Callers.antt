-- The rule of a frame by a way from the place of its address. What a way's rule is, and where it leads, is an architecture's.
use Rattle.std.specs.Prelude.{ℕ, ◌≡◌, ◌-◌, Bool, if◌then◌else◌, List, Option, None, option_and_then}
use Rattle.framehop_code.specs.Places.{CodeBytes, SameWithin, place_at, within}
use Rattle.framehop_code.specs.Ranges.{is_inside}
use Rattle.framehop_code.specs.declared.range.CodeRange.{CodeRange}
use Rattle.framehop_code_ways.specs.declared.way.BranchesOut.{BranchesOut}
use Rattle.framehop_code_ways.specs.declared.way.BranchesOut.TheVariants.{TailCalls, Unknown}
use Rattle.framehop_ways.specs.declared.executed.Bounds.{Bounds}

-- The rule of the first way out of a function from a place of a text, of a first or a later frame that goes on there.
abbrev pub FirstRule : Type 0 → Type 0
FirstRule Rule = BranchesOut → List ℕ → Bounds → ℕ → (is_first : Bool) → Option Rule

-- The bounds as places, counted from the first byte of the code.
abbrev pub places_in : CodeBytes → CodeRange → Bounds
places_in code range = record { begin = range.begin - code.begin; end = range.end - code.begin }

-- The rule of the first way from the place of an address inside the bounds.
abbrev pub rule_from : {Rule : Type 0} → FirstRule Rule → BranchesOut → CodeRange → CodeBytes → ℕ → Bool → Option Rule
rule_from first_rule branches_out range code address is_first =
    if is_inside range address
    then option_and_then (λ place. first_rule branches_out code.bytes (places_in code range) place is_first) (place_at code address)
    else None

-- Branches are followed in all of the code, and one out of it is a tail call.
abbrev pub rule_in_text : {Rule : Type 0} → FirstRule Rule → CodeRange → CodeBytes → ℕ → Bool → Option Rule
rule_in_text first_rule range code address is_first = rule_from first_rule TailCalls range code address is_first

-- Branches are followed within the bounds alone, and where one out of them leads isn't known.
abbrev pub rule_by_way : {Rule : Type 0} → FirstRule Rule → CodeRange → CodeBytes → ℕ → Bool → Option Rule
rule_by_way first_rule range code address is_first = rule_from first_rule Unknown range (within range code) address is_first

-- The rule is the same for any other code that has the same bytes within the bounds.
abbrev pub IsAlike : {Rule : Type 0} → FirstRule Rule → CodeRange → CodeBytes → ℕ → Bool → Option Rule → Type 0
IsAlike first_rule range code address is_first rule =
    (other : CodeBytes) → SameWithin range code other → rule_by_way first_rule range other address is_first ≡ rule

-- A way from the place of an address leads to where the rule says.
abbrev pub LeadsFrom : {Rule : Type 0} → (List ℕ → Bounds → ℕ → Bool → Rule → Type 0) → CodeRange → CodeBytes → ℕ → Bool → Rule → Type 0
LeadsFrom leads range code address is_first rule = leads code.bytes (places_in code range) (address - code.begin) is_first rule
