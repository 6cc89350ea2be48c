-- The rule by the code within bounds is the same whatever code is outside of them.
use Rattle.std.proofs.Common.{◌≡◌, ◌∙◌, sym, ap, ℕ, Bool, true, false, IsTrue, if◌then◌else◌, Option, Some, None, refl, arith}
use Rattle.std.specs.Prelude.{option_and_then}
use Rattle.framehop_code.specs.Ranges.{is_inside}
use Rattle.framehop_code.specs.Places.{CodeBytes, SameWithin, has_byte, within}
use Rattle.framehop_code.specs.declared.range.CodeRange.{CodeRange}
use Rattle.framehop_code_ways.specs.Callers.{FirstRule, places_in, rule_by_way, rule_from}
use Rattle.framehop_code_ways.specs.declared.way.BranchesOut.TheVariants.{Unknown}

-- What the law on parts of code says.
abbrev pub PartsAreSame : Type 0
PartsAreSame = (range : CodeRange) (one other : CodeBytes) (address : ℕ) → SameWithin range one other
    → IsTrue (has_byte (within range one) address) → within range one ≡ within range other

-- There is no rule at an address without a byte.
no_rule : {Rule : Type 0} (inside has : Bool) (rule : ℕ → Option Rule) (place : ℕ) → has ≡ false
    → (if inside then option_and_then rule (if has then Some place else None) else None) ≡ None
no_rule false has rule place is = refl
no_rule true false rule place is = refl
no_rule true true rule place is = grind (arith, is)

none_from : {Rule : Type 0} (first_rule : FirstRule Rule) (range : CodeRange) (code : CodeBytes) (address : ℕ) (is_first : Bool) → has_byte code address ≡ false
    → rule_from first_rule Unknown range code address is_first ≡ None
none_from first_rule range code address is_first none =
    no_rule (is_inside range address) (has_byte code address) (λ place. first_rule Unknown code.bytes (places_in code range) place is_first) _ none

by_bytes : {Rule : Type 0} (law : PartsAreSame) (first_rule : FirstRule Rule) (range : CodeRange) (one other : CodeBytes) (address : ℕ) (is_first : Bool)
    (first second : Bool) → has_byte (within range one) address ≡ first → has_byte (within range other) address ≡ second
    → SameWithin range one other → rule_by_way first_rule range other address is_first ≡ rule_by_way first_rule range one address is_first
by_bytes law first_rule range one other address is_first true second is other_is same =
    let has : IsTrue (has_byte (within range one) address) = grind (arith, is) in
    ap (λ (part : CodeBytes). rule_from first_rule Unknown range part address is_first) (sym (law range one other address same has))
by_bytes law first_rule range one other address is_first false true is other_is same =
    let has : IsTrue (has_byte (within range other) address) = grind (arith, other_is) in
    ap (λ (part : CodeBytes). rule_from first_rule Unknown range part address is_first) (law range other one address (λ at inside. sym (same at inside)) has)
by_bytes law first_rule range one other address is_first false false is other_is same =
    none_from first_rule range (within range other) address is_first other_is ∙ sym (none_from first_rule range (within range one) address is_first is)

pub alike : {Rule : Type 0} (law : PartsAreSame) (first_rule : FirstRule Rule) (range : CodeRange) (one other : CodeBytes) (address : ℕ) (is_first : Bool)
    → SameWithin range one other → rule_by_way first_rule range other address is_first ≡ rule_by_way first_rule range one address is_first
alike law first_rule range one other address is_first same =
    by_bytes law first_rule range one other address is_first (has_byte (within range one) address) (has_byte (within range other) address) refl refl same
