-- What is held under a number, after a value is added, changed or let go.
use Rattle.std.proofs.Common.{◌≡◌, ◌≢◌, ℕ, zero, suc, ◌<◌, List, [], ◌∷◌, ◌++◌, length, true, false, Option, Some, None, refl, ap, arith}
use Rattle.std.specs.Prelude.{is_some, option_map, slice_set, unwrap_or}
use Rattle.framehop_unwinder.specs.ByNumber.{held}

module _ {X : Type 0} where
  pub held-next : (xs : List (Option X)) → held xs (length xs) ≡ None
  held-next [] = refl
  held-next (x ∷ xs) = held-next xs

  pub held-added : (xs : List (Option X)) (x : Option X) → held (xs ++ x ∷ []) (length xs) ≡ x
  held-added [] x = refl
  held-added (y ∷ xs) x = held-added xs x

  pub held-before : (xs : List (Option X)) (x : Option X) (n : ℕ) → n ≢ length xs → held (xs ++ x ∷ []) n ≡ held xs n
  held-before [] x zero differ = absurd (differ refl)
  held-before [] x (suc n) differ = refl
  held-before (y ∷ xs) x zero differ = refl
  held-before (y ∷ xs) x (suc n) differ = held-before xs x n (λ same. differ (ap suc same))

  pub held-set : (xs : List (Option X)) (x : Option X) (n : ℕ) → n < length xs → held (slice_set xs n x) n ≡ x
  held-set [] x n less = absurd (omega arith)
  held-set (y ∷ xs) x zero less = refl
  held-set (y ∷ xs) x (suc n) less = held-set xs x n (omega arith)

  pub held-removed : (xs : List (Option X)) (n : ℕ) → held (slice_set xs n None) n ≡ None
  held-removed [] n = refl
  held-removed (y ∷ xs) zero = refl
  held-removed (y ∷ xs) (suc n) = held-removed xs n

  pub held-other : (xs : List (Option X)) (x : Option X) (n m : ℕ) → m ≢ n → held (slice_set xs n x) m ≡ held xs m
  held-other [] x n m differ = refl
  held-other (y ∷ xs) x zero zero differ = absurd (differ refl)
  held-other (y ∷ xs) x zero (suc m) differ = refl
  held-other (y ∷ xs) x (suc n) zero differ = refl
  held-other (y ∷ xs) x (suc n) (suc m) differ = held-other xs x n m (λ same. differ (ap suc same))

-- what is held, where something is
pub if-some : {X Y : Type 0} (f : X → Y) (x : Option X) (d : X) → is_some x ≡ true → option_map f x ≡ Some (f (unwrap_or x d))
if-some f None d there = absurd (let no : false ≡ true = there in cc)
if-some f (Some x) d there = refl

pub still-some : {X Y : Type 0} (f : X → Y) (x : Option X) → is_some x ≡ true → is_some (option_map f x) ≡ true
still-some f None there = there
still-some f (Some x) there = refl
