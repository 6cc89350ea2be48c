-- The one value that is as wanted.
use Rattle.std.proofs.Common.{◌≡◌, ◌∙◌, refl, sym, ap, subst, inl, inr, Option, Some, None}
use Rattle.std.specs.Option.{IfSome, IfNone}
use Rattle.framehop_analysis.specs.Found.{IsFound, IsOfFirst}

-- one that was found, where there is at most one
pub found : {A : Type 0} (IsWanted : A → Type 0) (result : Option A) → ((one other : A) → IsWanted one → IsWanted other → one ≡ other)
    → IfSome result IsWanted → IfNone result ((value : A) → ¬ IsWanted value) → IsFound IsWanted result
found {A} IsWanted (Some value) unique is none = λ other. (λ same. by other same, λ wanted. ap Some (unique value other is wanted))
  where
    by : (other : A) → Some value ≡ Some other → IsWanted other
    by other same = let e : value ≡ other = cc in subst IsWanted e is
found IsWanted None unique is none = λ other. (λ same. cc, λ wanted. absurd (none other wanted))

-- the first of two searches found one
pub first_found : {A : Type 0} (IsFirst IsSecond : A → Type 0) (first : Option A) (value : A) → first ≡ Some value → IsFound IsFirst first → IsFound (IsOfFirst IsFirst IsSecond) (Some value)
first_found {A} IsFirst IsSecond first value is is_found = λ other. (λ same. inl ((is_found other).0 (is ∙ same)), by other)
  where
    by : (other : A) → IsOfFirst IsFirst IsSecond other → Some value ≡ Some other
    by other (inl wanted) = sym is ∙ (is_found other).1 wanted
    by other (inr (none, wanted)) = absurd (none value ((is_found value).0 is))

-- the first of two searches found none
pub second_found : {A : Type 0} (IsFirst IsSecond : A → Type 0) (first second : Option A) → first ≡ None → IsFound IsFirst first → IsFound IsSecond second → IsFound (IsOfFirst IsFirst IsSecond) second
second_found {A} IsFirst IsSecond first second is is_found is_second = λ other. (
  λ same. inr (λ value wanted. no value ((is_found value).1 wanted), (is_second other).0 same),
  by other,
)
  where
    no : (value : A) → first ≡ Some value → ⊥
    no value same = cc

    by : (other : A) → IsOfFirst IsFirst IsSecond other → second ≡ Some other
    by other (inl wanted) = absurd (no other ((is_found other).1 wanted))
    by other (inr (none, wanted)) = (is_second other).1 wanted

-- what the first of two searches found, or else the second
pub either_found : {A : Type 0} (IsFirst IsSecond : A → Type 0) → ((found : Option A) × IsFound IsFirst found) → ((found : Option A) × IsFound IsSecond found)
    → (found : Option A) × IsFound (IsOfFirst IsFirst IsSecond) found
either_found IsFirst IsSecond (Some value, is) second = (Some value, first_found IsFirst IsSecond (Some value) value refl is)
either_found IsFirst IsSecond (None, is) (second, is_second) = (second, second_found IsFirst IsSecond None second refl is is_second)
