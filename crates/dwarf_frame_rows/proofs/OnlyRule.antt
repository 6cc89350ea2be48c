-- The map of one rule, or of none; and how many rows rules count as.
use Rattle.std.proofs.Common.{◌≡◌, ℕ, ◌≤◌, Bool, true, List, ◌∷◌, [], length, ◌==◌, ◌⊎◌, inl, inr, nat_le, if◌then◌else◌, Option, Some, None, refl, sym, ap, ◌∙◌, arith}
use Rattle.std.specs.FinMap.{get, get-empty, len, len-empty}
use Rattle.std.specs.Ordering.{nat_cmp}
use Rattle.dwarf_frame_rows.specs.declared.context.InitialRules.{InitialRules}
use Rattle.dwarf_frame_rows.specs.declared.context.InitialRules.TheVariants.{Unknown, AtMostOne}
use Rattle.dwarf_frame_rows.specs.declared.rules.RegisterRule.{RegisterRule}
use Rattle.dwarf_frame_rows.specs.declared.rules.RuledRegister.{RuledRegister}
use Rattle.dwarf_frame_rows.specs.Contexts.{known_rules}
use Rattle.dwarf_frame_rows.specs.Effects.{initial_rows}
use Rattle.dwarf_frame_rows.specs.RuleMap.{HasEachOnce, RuleMap, map_of, rules_of_one}
use Rattle.dwarf_frame_rows.proofs.RuleMaps.{get-map_of, length-map_of}

-- the rule of the only register
pub get-only : {V : Type 0} (pair : Option (RuledRegister V)) (only : RuledRegister V) (register : ℕ) → pair ≡ Some only
    → get (rules_of_one pair) register ≡ (if only.register.0 == register then Some only.rule else None)
get-only pair only register is = ap (λ p. get (rules_of_one p) register) is ∙ get-map_of (only ∷ []) register

-- no register has a rule
pub get-none : {V : Type 0} (pair : Option (RuledRegister V)) (register : ℕ) → pair ≡ None → get (rules_of_one pair) register ≡ None
get-none pair register is = ap (λ p. get (rules_of_one p) register) is ∙ get-empty nat_cmp register

-- neither counts as a row
not-counted : {V : Type 0} (pair : Option (RuledRegister V)) → initial_rows (Some (rules_of_one pair)) ≡ 0
not-counted {V} None = ap (λ n. if nat_le 2 n then 1 else 0) (len-empty nat_cmp V)
not-counted (Some pair) = ap (λ n. if nat_le 2 n then 1 else 0) (length-map_of (pair ∷ []) (refl, tt))

-- nor do rules that aren't known
pub few-not-counted : {T : Type 0} (initial : InitialRules T) (of_first : RuleMap (RegisterRule T))
    → (initial ≡ Unknown) ⊎ ((pair : Option (RuledRegister (RegisterRule T))) × (initial ≡ AtMostOne pair))
    → initial_rows (known_rules initial of_first) ≡ 0
few-not-counted initial of_first (inl is) = ap (λ i. initial_rows (known_rules i of_first)) is
few-not-counted initial of_first (inr (pair, is)) = ap (λ i. initial_rows (known_rules i of_first)) is ∙ not-counted pair

-- two rules and more count as one row
pub more-counted : {V : Type 0} (pairs : List (RuledRegister V)) (rules : RuleMap V) → map_of pairs ≡ rules → HasEachOnce pairs → 2 ≤ length pairs → initial_rows (Some rules) ≡ 1
more-counted pairs rules is once more =
    let long : len rules ≡ length pairs = ap (λ r. len r) (sym is) ∙ length-map_of pairs once in
    let test : nat_le 2 (len rules) ≡ true = grind arith in
    ap (λ (b : Bool). if b then 1 else 0) test
