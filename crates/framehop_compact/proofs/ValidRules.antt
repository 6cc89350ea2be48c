-- The rules that machine code of x86_64 has can be executed.
use Rattle.std.proofs.Common.{◌≡◌, ◌==◌, ℕ, ◌+◌, ◌^◌, Bool, true, false, nat_lt, refl, subst, inl, inr, List, length, ◌-◌}
use Rattle.std.specs.Prelude.{pos, Option, Some, None, IfSome, if◌then◌else◌}
use Rattle.framehop_rules.specs.RuleMeaning.{IsValid}
use Rattle.framehop_rules.specs.declared.x86_64.unwind_rule.UnwindRuleX86_64.{UnwindRuleX86_64}
use Rattle.framehop_rules.specs.declared.x86_64.unwind_rule.UnwindRuleX86_64.TheVariants.{JustReturn, OffsetSp, OffsetSpAndRestoreBp}
use Rattle.framehop_analysis.specs.Epilogue.{IsEpilogueRule, rule_of_pops, last_rbp_pop}
use Rattle.framehop_analysis.specs.Prologue.{IsPrologueRule, rule_of_pushes}
use Rattle.framehop_analysis.specs.Found.{IsOfFirst}
use Rattle.framehop_compact.specs.Analysed.{IsAnalysed}

if-valid : (b : Bool) (one other : Option UnwindRuleX86_64) → IfSome one IsValid → IfSome other IsValid → IfSome (if b then one else other) IsValid
if-valid true one other yes_valid no_valid = yes_valid
if-valid false one other yes_valid no_valid = no_valid

restored-valid : (pops : ℕ) (bp_offset_by_8 : Option ℕ) → IfSome (elim bp_offset_by_8 [
  | None ↦ Some (OffsetSp (pops + 1))
  | Some bp_offset ↦ if nat_lt bp_offset (2 ^ 15) then Some (OffsetSpAndRestoreBp (pops + 1) (pos bp_offset)) else None
]) IsValid
restored-valid pops None = tt
restored-valid pops (Some bp_offset) = if-valid (nat_lt bp_offset (2 ^ 15)) (Some (OffsetSpAndRestoreBp (pops + 1) (pos bp_offset))) None tt tt

pops-valid : (pops : ℕ) (bp_offset_by_8 : Option ℕ) → IfSome (rule_of_pops pops bp_offset_by_8) IsValid
pops-valid pops bp_offset_by_8 =
    if-valid (pops == 0) (Some JustReturn) _ tt (if-valid (nat_lt (pops + 1) (2 ^ 16)) _ None (restored-valid pops bp_offset_by_8) tt)

pushes-valid : (has_setup : Bool) (pushes : ℕ) → IfSome (rule_of_pushes has_setup pushes) IsValid
pushes-valid true pushes = tt
pushes-valid false pushes = if-valid (nat_lt (pushes + 1) (2 ^ 16)) (Some (OffsetSp (pushes + 1))) None tt tt

as-found : (found : Option UnwindRuleX86_64) (rule : UnwindRuleX86_64) → found ≡ Some rule → IfSome found IsValid → IsValid rule
as-found found rule is valid = let P : Option UnwindRuleX86_64 → Type 0 = λ o. IfSome o IsValid in subst P is valid

of-prologue : (text : List ℕ) (offset : ℕ) (rule : UnwindRuleX86_64) → IsPrologueRule text offset rule → IsValid rule
of-prologue text offset rule is = as-found (rule_of_pushes is.0 (length is.1)) rule is.3 (pushes-valid is.0 (length is.1))

of-epilogue : (text : List ℕ) (offset : ℕ) (rule : UnwindRuleX86_64) → IsEpilogueRule text offset rule → IsValid rule
of-epilogue text offset rule is = as-found (rule_of_pops (length is.0 - 1) (last_rbp_pop is.0)) rule is.2 (pops-valid (length is.0 - 1) (last_rbp_pop is.0))

of-either : (text : List ℕ) (offset : ℕ) (rule : UnwindRuleX86_64) → IsOfFirst (IsPrologueRule text offset) (IsEpilogueRule text offset) rule → IsValid rule
of-either text offset rule (inl prologue) = of-prologue text offset rule prologue
of-either text offset rule (inr epilogue) = of-epilogue text offset rule epilogue.1

pub analysed-valid : (is_first : Bool) (offset : ℕ) (text : Option (List ℕ)) (rule : UnwindRuleX86_64)
    → IsAnalysed IsPrologueRule IsEpilogueRule is_first offset text (Some rule) → IsValid rule
analysed-valid true offset (Some text) rule found = of-either text offset rule ((found rule).0 refl)
analysed-valid true offset None rule found = cc
analysed-valid false offset text rule found = cc
