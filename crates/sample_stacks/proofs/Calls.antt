-- Calls that name what a session has.
use Rattle.std.proofs.Common.{◌≡◌, Bool, true, false, Result, Ok, Err, refl, sym, subst, ◌∙◌}
use Rattle.std.specs.Prelude.{IsOk, IfOk}
use Rattle.framehop_unwinder.specs.IdViews.{FindsHeld}

-- a call that names what is there is done
pub is_done : {X A E : Type 0} (there : Bool) (result : Result A E) (old new : X) → there ≡ true → FindsHeld there result old new → IsOk result
is_done there (Ok answer) old new is found = refl
is_done there (Err error) old new is found = absurd (let none : true ≡ false = sym is ∙ found.only in cc)

-- what holds if a call is done
pub if_done : {A E : Type 0} (result : Result A E) (answer : A) (Statement : A → Type 0) → result ≡ Ok answer → IfOk result Statement → Statement answer
if_done {A} {E} result answer Statement is said = subst (λ (r : Result A E). IfOk r Statement) is said
