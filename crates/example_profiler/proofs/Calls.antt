-- Calls that name what a session has.
use Rattle.std.proofs.Common.{◌≡◌, Bool, true, false, Result, Ok, Err, refl, sym, subst, ◌∙◌}
use Rattle.std.specs.Prelude.{IsOk, IfOk, OnErr, OnOk, is_err}
use Rattle.framehop_unwinder.specs.IdViews.{FindsHeld}

-- a call that names what is there is done
pub is_done : {X A E : Type 0} (there : Bool) (result : Result A E) (old new : X) → there ≡ true → FindsHeld there result old new → IsOk result
is_done there (Ok answer) old new is found = refl
is_done there (Err error) old new is found = absurd (let none : true ≡ false = sym is ∙ found.only in cc)

-- what holds if a call is done
pub if_done : {A E : Type 0} (result : Result A E) (answer : A) (Statement : A → Type 0) → result ≡ Ok answer → IfOk result Statement → Statement answer
if_done {A} {E} result answer Statement is said = subst (λ (r : Result A E). IfOk r Statement) is said

-- what holds if a call failed, of one that did
pub if_failed : {A E : Type 0} (result : Result A E) (Statement : Type 0) → is_err result ≡ true → OnErr result Statement → Statement
if_failed (Ok answer) Statement failed said = absurd (let no : false ≡ true = failed in cc)
if_failed (Err error) Statement failed said = said

-- what holds if a call didn't fail, of one that didn't
pub if_not_failed : {A E : Type 0} (result : Result A E) (Statement : Type 0) → is_err result ≡ false → OnOk result Statement → Statement
if_not_failed (Ok answer) Statement done said = said
if_not_failed (Err error) Statement done said = absurd (let no : true ≡ false = done in cc)

-- a call that is done found what it names
pub was-held : {X A E : Type 0} (there : Bool) (result : Result A E) (old new : X) (answer : A) → FindsHeld there result old new → result ≡ Ok answer → there ≡ true
was-held true result old new answer found is = refl
was-held {A} {E} false result old new answer found is = absurd (let no : false ≡ true = subst (λ (r : Result A E). is_err r ≡ true) is (found.stale refl) in cc)
