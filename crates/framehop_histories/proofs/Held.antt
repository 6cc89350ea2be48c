-- What is held under numbers, and the numbers that something is held under.
use Rattle.std.proofs.Common.{◌≡◌, ℕ, zero, suc, Bool, true, false, List, [], ◌∷◌, Option, Some, None, ap, refl, map}
use Rattle.std.specs.Prelude.{is_some, option_map, unwrap_or}
use Rattle.framehop_unwinder.specs.ByNumber.{held, is_held, mark, marks, with_changed}

known-by : {X Y : Type 0} (f : X → Y) (o : Option X) (default : X) → is_some o ≡ true → option_map f o ≡ Some (f (unwrap_or o default))
known-by f None default there = absurd (let no : false ≡ true = there in cc)
known-by f (Some x) default there = refl

unknown-by : {X Y : Type 0} (f : X → Y) (o : Option X) → is_some o ≡ false → option_map f o ≡ None
unknown-by f None gone = refl
unknown-by f (Some x) gone = absurd (let no : true ≡ false = gone in cc)

pub held-known : {X Y : Type 0} (f : X → Y) (xs : List (Option X)) (i : ℕ) (default : X) → is_held xs i ≡ true → held (map (option_map f) xs) i ≡ Some (f (unwrap_or (held xs i) default))
held-known f [] i default there = absurd (let no : false ≡ true = there in cc)
held-known f (o ∷ xs) zero default there = known-by f o default there
held-known f (o ∷ xs) (suc i) default there = held-known f xs i default there

pub held-unknown : {X Y : Type 0} (f : X → Y) (xs : List (Option X)) (i : ℕ) → is_held xs i ≡ false → held (map (option_map f) xs) i ≡ None
held-unknown f [] i gone = refl
held-unknown f (o ∷ xs) zero gone = unknown-by f o gone
held-unknown f (o ∷ xs) (suc i) gone = held-unknown f xs i gone

mark-is : {X : Type 0} (o : Option X) → is_some o ≡ is_some (option_map mark o)
mark-is None = refl
mark-is (Some x) = refl

pub held-by-marks : {X : Type 0} (xs : List (Option X)) (i : ℕ) → is_held xs i ≡ is_held (marks xs) i
held-by-marks [] i = refl
held-by-marks (o ∷ xs) zero = mark-is o
held-by-marks (o ∷ xs) (suc i) = held-by-marks xs i

mark-changed : {X : Type 0} (change : X → X) (o : Option X) → option_map mark (option_map change o) ≡ option_map mark o
mark-changed change None = refl
mark-changed change (Some x) = refl

pub marks-changed : {X : Type 0} (change : X → X) (xs : List (Option X)) (i : ℕ) → marks (with_changed change xs i) ≡ marks xs
marks-changed change [] i = refl
marks-changed {X} change (o ∷ xs) zero = ap (λ (y : Option (Unit {0})). y ∷ marks xs) (mark-changed change o)
marks-changed {X} change (o ∷ xs) (suc i) = ap (λ (ys : List (Option (Unit {0}))). option_map mark o ∷ ys) (marks-changed change xs i)
