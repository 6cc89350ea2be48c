-- The rule of the machine code is one alone.
use Rattle.std.proofs.Common.{◌≡◌, ℕ, Bool, true, false, refl, sym, List, Option, Some, None}
use Rattle.framehop_analysis.specs.Found.{IsFound}
use Rattle.framehop_compact.specs.Analysed.{IsAnalysed, IsKnownAt, RulesAt, analysed}

one-found : {A : Type 0} (P : A → Type 0) (one other : Option A) → IsFound P one → IsFound P other → one ≡ other
one-found P (Some value) other is is_other = sym ((is_other value).1 ((is value).0 refl))
one-found P None (Some value) is is_other = (is value).1 ((is_other value).0 refl)
one-found P None None is is_other = refl

-- so a rule that was found is the one that is known
pub analysed-is : {Rule : Type 0} (P E : RulesAt Rule) (known : IsKnownAt P E) (is_first : Bool) (offset : ℕ) (text : Option (List ℕ)) (found : Option Rule)
    → IsAnalysed P E is_first offset text found → found ≡ analysed (λ text offset. (known text offset).0) is_first offset text
analysed-is P E known true offset (Some text) found is = one-found _ found (known text offset).0 is (known text offset).1
analysed-is P E known true offset None found is = is
analysed-is P E known false offset text found is = is

-- what isn't some is none
pub none-left : {A : Type 0} (o : Option A) → ((x : A) → o ≡ Some x → ⊥) → o ≡ None
none-left None none = refl
none-left (Some x) none = absurd (none x refl)
