-- The rule for what an iterator of parts gave.
use Rattle.std.proofs.Common.{◌≡◌, ◌∙◌, ◌++◌, List, [], ◌∷◌, ap, sym, subst, refl, append-nil}
use Rattle.std.specs.Prelude.{Option, Some, None, Result, Ok, IsSome, IfSome}
use Rattle.std.specs.Iterator.{Yields, DrainsIf}
use Rattle.std.specs.List.{AllZip}
use Rattle.framehop_rules.specs.RuleMeaning.{IsValid}
use Rattle.framehop_rules.specs.Sequences.{HasNoRule, IsRuleOf, IsRuleFor}
use Rattle.framehop_rules.specs.declared.x86_64.offset_or_pop.OffsetOrPop.{OffsetOrPop}
use Rattle.framehop_rules.specs.declared.x86_64.unwind_rule.UnwindRuleX86_64.{UnwindRuleX86_64}
use Rattle.framehop_errors.specs.declared.pe.PeUnwinderError.{PeUnwinderError}
use Rattle.framehop_pe.specs.PartViews.{GivesBy}

module _ {S : Type 0} (left : S → Result (List OffsetOrPop) PeUnwinderError) where
  -- what came, and what is left
  record IsFront (items all : List OffsetOrPop) (after : S) : Type 0 where
    more : List OffsetOrPop
    left_is : left after ≡ Ok more
    is : all ≡ items ++ more

  front : (items : List OffsetOrPop) (before after : S) (all : List OffsetOrPop) → Yields (GivesBy left) before items after → left before ≡ Ok all → IsFront items all after
  front [] before after all same readable = record { more = all; left_is = ap left (sym same) ∙ readable; is = refl }
  front (item ∷ items) before after all (next, step, rest) readable =
      let (more, left_next, all_is) = step all readable in
      let after = front items next after more rest left_next in
      record { more = after.more; left_is = after.left_is; is = all_is ∙ ap (λ l. item ∷ l) after.is }

  pub chosen : (rule : Option UnwindRuleX86_64) (items all : List OffsetOrPop) (before : S)
      → ((operations more : List OffsetOrPop) → HasNoRule operations → HasNoRule (operations ++ more))
      → DrainsIf (GivesBy left) (IsSome rule) before items → left before ≡ Ok all → IsRuleFor items rule → IsRuleFor all rule
  chosen None items all before longer (after, yields, ends) readable no_rule =
      let split = front items before after all yields readable in
      let P : List OffsetOrPop → Type 0 = λ l. HasNoRule l in
      subst P (sym split.is) (longer items split.more no_rule)
  chosen (Some rule) items all before longer (after, yields, ends) readable is_rule =
      let split = front items before after all yields readable in
      let (last, step) = ends refl in
      let none : split.more ≡ [] = step split.more split.left_is in
      let whole : all ≡ items = split.is ∙ ap (λ m. items ++ m) none ∙ append-nil items in
      let P : List OffsetOrPop → Type 0 = λ l. IsRuleOf l rule in
      subst P (sym whole) is_rule

-- parts that were handed on as they are
pub zip-same : (items taken : List OffsetOrPop) → AllZip (λ (x y : OffsetOrPop). y ≡ x) items taken → taken ≡ items
zip-same [] [] zip = refl
zip-same [] (y ∷ ys) zip = absurd zip
zip-same (x ∷ xs) [] zip = absurd zip
zip-same (x ∷ xs) (y ∷ ys) zip = ap (λ o. o ∷ ys) zip.0 ∙ ap (λ l. x ∷ l) (zip-same xs ys zip.1)

pub rule-same : (items taken : List OffsetOrPop) (rule : Option UnwindRuleX86_64) → taken ≡ items → IsRuleFor taken rule → IsRuleFor items rule
rule-same items taken rule same of = let P : List OffsetOrPop → Type 0 = λ l. IsRuleFor l rule in subst P same of

-- a rule that was made can be executed
pub rule-valid : (operations : List OffsetOrPop) (rule : Option UnwindRuleX86_64)
    → ((operations : List OffsetOrPop) (rule : UnwindRuleX86_64) → IsRuleOf operations rule → IsValid rule) → IsRuleFor operations rule → IfSome rule IsValid
rule-valid operations None valid no_rule = tt
rule-valid operations (Some rule) valid is_rule = valid operations rule is_rule
