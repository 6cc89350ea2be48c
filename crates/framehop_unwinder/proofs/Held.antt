-- Values by numbers: what is held under one, and what holds of all that are.
use Rattle.std.proofs.Common.{◌≡◌, ℕ, zero, suc, List, [], ◌∷◌, ◌++◌, Option, Some, None, sym, ap, subst, refl, arith, get_or, map}
use Rattle.std.specs.Prelude.{slice_set, option_map, unwrap_or, IfSome}
use Rattle.std.proofs.lemmas.List.Elements.{All-set, All-push}
use Rattle.framehop_unwinder.specs.ByNumber.{AllHeld, held, mark, marks, with_changed}

module _ {X : Type 0} where
  if-some-weaker : (P Q : X → Type 0) → ((x : X) → P x → Q x) → (o : Option X) → IfSome o P → IfSome o Q
  if-some-weaker P Q weaker None one = tt
  if-some-weaker P Q weaker (Some x) one = weaker x one

  if-some-both : (P Q : X → Type 0) (o : Option X) → IfSome o P → IfSome o Q → IfSome o (λ x. P x × Q x)
  if-some-both P Q None one other = tt
  if-some-both P Q (Some x) one other = (one, other)

  pub all-weaker : (P Q : X → Type 0) → ((x : X) → P x → Q x) → (xs : List (Option X)) → AllHeld P xs → AllHeld Q xs
  all-weaker P Q weaker xs all = λ k d less. if-some-weaker P Q weaker (get_or xs k d) (all k d less)

  pub all-both : (P Q : X → Type 0) (xs : List (Option X)) → AllHeld P xs → AllHeld Q xs → AllHeld (λ x. P x × Q x) xs
  all-both P Q xs one other = λ k d less. if-some-both P Q (get_or xs k d) (one k d less) (other k d less)

  pub all-set : (P : X → Type 0) (xs : List (Option X)) (i : ℕ) (x : Option X) → IfSome x P → AllHeld P xs → AllHeld P (slice_set xs i x)
  all-set P xs i x here all = All-set (λ o. IfSome o P) xs i x here all

  pub all-push : (P : X → Type 0) (xs : List (Option X)) (x : Option X) → AllHeld P xs → IfSome x P → AllHeld P (xs ++ x ∷ [])
  all-push P xs x all here = All-push (λ o. IfSome o P) xs x all here

  pub all-at : (P : X → Type 0) (xs : List (Option X)) (i : ℕ) (x : X) → held xs i ≡ Some x → AllHeld P xs → P x
  all-at P [] i x is all = absurd (let no : None ≡ Some x = is in cc)
  all-at P (o ∷ xs) zero x is all = subst (λ (y : Option X). IfSome y P) is (all 0 o (omega arith))
  all-at P (o ∷ xs) (suc i) x is all = all-at P xs i x is (λ k d less. all (suc k) d (omega arith))

  -- what is held is changed in its place
  pub changed-is : (change : X → X) (xs : List (Option X)) (i : ℕ) (x : X) → held xs i ≡ Some x → slice_set xs i (Some (change x)) ≡ with_changed change xs i
  changed-is change [] i x is = absurd (let no : None ≡ Some x = is in cc)
  changed-is change (o ∷ xs) zero x is = ap (λ (y : Option X). option_map change y ∷ xs) (sym is)
  changed-is change (o ∷ xs) (suc i) x is = ap (λ (ys : List (Option X)). o ∷ ys) (changed-is change xs i x is)

  -- the same is put again
  pub set-held : (xs : List (Option X)) (i : ℕ) (x : X) → held xs i ≡ Some x → slice_set xs i (Some x) ≡ xs
  set-held [] i x is = absurd (let no : None ≡ Some x = is in cc)
  set-held (o ∷ xs) zero x is = ap (λ (y : Option X). y ∷ xs) (sym is)
  set-held (o ∷ xs) (suc i) x is = ap (λ (ys : List (Option X)). o ∷ ys) (set-held xs i x is)

  -- what is put in a place that has something is there
  pub held-put : (xs : List (Option X)) (i : ℕ) (x y : X) → held xs i ≡ Some x → held (slice_set xs i (Some y)) i ≡ Some y
  held-put [] i x y is = absurd (let no : None ≡ Some x = is in cc)
  held-put (o ∷ xs) zero x y is = refl
  held-put (o ∷ xs) (suc i) x y is = held-put xs i x y is

  -- the last that is put in a place counts
  pub set-again : (xs : List (Option X)) (i : ℕ) (x y : Option X) → slice_set (slice_set xs i x) i y ≡ slice_set xs i y
  set-again [] i x y = refl
  set-again (o ∷ xs) zero x y = refl
  set-again (o ∷ xs) (suc i) x y = ap (λ (ys : List (Option X)). o ∷ ys) (set-again xs i x y)

  mark-changed : (change : X → X) (o : Option X) → option_map mark (option_map change o) ≡ option_map mark o
  mark-changed change None = refl
  mark-changed change (Some x) = refl

  pub marks-changed : (change : X → X) (xs : List (Option X)) (i : ℕ) → marks (with_changed change xs i) ≡ marks xs
  marks-changed change [] i = refl
  marks-changed change (o ∷ xs) zero = ap (λ (y : Option (Unit {0})). y ∷ marks xs) (mark-changed change o)
  marks-changed change (o ∷ xs) (suc i) = ap (λ (ys : List (Option (Unit {0}))). option_map mark o ∷ ys) (marks-changed change xs i)

pub held-map : {X Y : Type 0} (f : X → Y) (xs : List (Option X)) (i : ℕ) → held (map (option_map f) xs) i ≡ option_map f (held xs i)
held-map f [] i = refl
held-map f (o ∷ xs) zero = refl
held-map f (o ∷ xs) (suc i) = held-map f xs i

-- what is held, with what stands for what isn't
pub held-or : {X : Type 0} (xs : List (Option X)) (i : ℕ) (x d : X) → held xs i ≡ Some x → unwrap_or (held xs i) d ≡ x
held-or {X} xs i x d is = ap (λ (o : Option X). unwrap_or o d) is
