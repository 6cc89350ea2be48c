-- Calls that name what a session has.
use Rattle.std.proofs.Common.{◌≡◌, ℕ, zero, suc, Bool, true, false, List, [], ◌∷◌, Option, Some, None, Result, Ok, Err, refl, sym, ap, subst, ◌∙◌}
use Rattle.std.specs.Prelude.{IsOk, IfOk, is_some, option_map}
use Rattle.framehop_unwinder.specs.ByNumber.{is_held, mark, marks}
use Rattle.framehop_unwinder.specs.IdViews.{FindsHeld, cache_number, has_both, unwinder_number}
use Rattle.framehop_unwinder.specs.Attempt.{Meanings}
use Rattle.framehop_unwinder.specs.Frames.{Frame}
use Rattle.framehop_unwinder.specs.State.{SessionState}
use Rattle.framehop_unwinder.specs.declared.ids.CacheId.{CacheId}
use Rattle.framehop_unwinder.specs.declared.ids.UnwinderId.{UnwinderId}
use Rattle.framehop_calls.specs.SampleSteps.{CountsAsStep, KeepsModules}
use Rattle.framehop_calls.specs.declared.sample_steps.SampleStep.{SampleStep}
use Rattle.framehop_calls.specs.declared.sample_steps.SampleStep.TheVariants.{Answered, NeedsWord}

-- a call that names what is there is done
pub is_done : {X A E : Type 0} (there : Bool) (result : Result A E) (old new : X) → there ≡ true → FindsHeld there result old new → IsOk result
is_done there (Ok answer) old new is found = refl
is_done there (Err error) old new is found = absurd (let none : true ≡ false = sym is ∙ found.only in cc)

-- what a fact gives of what a call returns if it is done
pub if_ok : {A E : Type 0} (result : Result A E) (Given Found : A → Type 0) → ((a : A) → Given a → Found a) → IfOk result Given → IfOk result Found
if_ok (Ok a) Given Found gives given = gives a given
if_ok (Err e) Given Found gives given = tt

-- what two facts give of what a call returns if it is done
pub both_if_done : {A E : Type 0} (result : Result A E) (One Other Both : A → Type 0) → ((a : A) → One a → Other a → Both a)
    → IfOk result One → IfOk result Other → IfOk result Both
both_if_done (Ok a) One Other Both gives one other = gives a one other
both_if_done (Err e) One Other Both gives one other = tt

-- what holds if a call is done
pub if_done : {A E : Type 0} (result : Result A E) (answer : A) (Statement : A → Type 0) → result ≡ Ok answer → IfOk result Statement → Statement answer
if_done {A} {E} result answer Statement is said = subst (λ (r : Result A E). IfOk r Statement) is said

mark_is : {X : Type 0} (o : Option X) → is_some o ≡ is_some (option_map mark o)
mark_is None = refl
mark_is (Some x) = refl

-- what is held is marked
marked : {X : Type 0} (xs : List (Option X)) (number : ℕ) → is_held xs number ≡ is_held (marks xs) number
marked [] number = refl
marked (x ∷ xs) zero = mark_is x
marked (x ∷ xs) (suc number) = marked xs number

-- what a session has, it has as long as only its caches change
pub both_stay : {D R : Type 0} (old new : SessionState D R) (unwinder : UnwinderId) (cache : CacheId)
    → KeepsModules old new → has_both old unwinder cache ≡ true → has_both new unwinder cache ≡ true
both_stay {D} {R} old new unwinder cache keeps there =
    let k = cache_number cache in
    let us : is_held new.unwinders (unwinder_number unwinder) ≡ is_held old.unwinders (unwinder_number unwinder) =
    ap (λ us. is_held us (unwinder_number unwinder)) keeps.unwinders in
    let cs : is_held new.caches k ≡ is_held old.caches k =
    marked new.caches k ∙ ap (λ ms. is_held ms k) keeps.held ∙ sym (marked old.caches k) in
    rw (us, cs) there

-- what a step leaves in the caches, it leaves there alone
pub keeps_modules : {Data Rule Registers : Type 0} (m : Meanings Data Rule Registers) (made : SampleStep) (frame : Frame) (unwinder cache : ℕ)
    (old new : SessionState Data Rule) → CountsAsStep m made frame unwinder cache old new → KeepsModules old new
keeps_modules m (Answered answer) frame unwinder cache old new counts =
    record { unwinders = counts.unwinders; next = counts.next; held = counts.held }
keeps_modules m (NeedsWord address) frame unwinder cache old new (wanted, counts) =
    record { unwinders = counts.unwinders; next = counts.next; held = counts.held }
