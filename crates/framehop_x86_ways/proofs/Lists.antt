-- What holds of a list holds once one more is at its end.
use Rattle.std.proofs.Common.{◌≡◌, ◌∙◌, refl, ap, Bool, true, false, List, [], ◌∷◌, ◌++◌}
use Rattle.std.specs.Prelude.{◌||◌}
use Rattle.std.specs.List.{AllByRecursion, list_any}

pub all_and_one : {A : Type 0} (P : A → Type 0) (xs : List A) (x : A) → AllByRecursion P xs → P x → AllByRecursion P (xs ++ x ∷ [])
all_and_one P [] x all is = (is, tt)
all_and_one P (y ∷ xs) x all is = (all.0, all_and_one P xs x all.1 is)

pub all_so : {A : Type 0} (P Q : A → Type 0) (xs : List A) → ((x : A) → P x → Q x) → AllByRecursion P xs → AllByRecursion Q xs
all_so P Q [] so all = tt
all_so P Q (x ∷ xs) so all = (so x all.0, all_so P Q xs so all.1)

or_assoc : (a b c : Bool) → (a || (b || c)) ≡ ((a || b) || c)
or_assoc true b c = refl
or_assoc false b c = refl

or_false : (a : Bool) → (a || false) ≡ a
or_false true = refl
or_false false = refl

pub any_and_one : {A : Type 0} (p : A → Bool) (xs : List A) (x : A) → list_any p (xs ++ x ∷ []) ≡ (list_any p xs || p x)
any_and_one p [] x = or_false (p x)
any_and_one p (y ∷ xs) x = ap (λ b. p y || b) (any_and_one p xs x) ∙ or_assoc (p y) (list_any p xs) (p x)

pub any_before : {A : Type 0} (p : A → Bool) (xs : List A) (x : A) → list_any p xs ≡ true → list_any p (xs ++ x ∷ []) ≡ true
any_before p xs x is = any_and_one p xs x ∙ ap (λ b. b || p x) is
