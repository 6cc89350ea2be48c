-- Lists in the order of a key: which one a search by halves finds, where a new one goes, and what a removal leaves.
use Rattle.std.proofs.Common.{◌≡◌, ◌≢◌, ℕ, zero, suc, ◌+◌, ◌-◌, ◌<◌, ◌≤◌, refl, ◌∙◌, ap, sym, arith, Option, Some, None, Bool, true, false, List, [], ◌∷◌, length, take, get_or, ◌⊎◌, inl, inr}
use Rattle.std.specs.Prelude.{nat_lt, nat_le, ◌==◌, ◌&&◌, ◌||◌, insert, option_map, unwrap_or}
use Rattle.std.specs.List.{filter, remove}
use Rattle.std.proofs.lemmas.Bool.{ne_eqb, eq-eqb, cases_lt, or_parts}
use Rattle.std.proofs.lemmas.List.{get_or-take, get_or_default, length-take-le}
use Rattle.std.proofs.lemmas.List.Edits.{length-remove, get_or-remove_below, get_or-remove_above}
use Rattle.std.specs.List.Sorted.{IsNonDecreasingBy}
use Rattle.std.proofs.lemmas.List.Sorted.{IsNonDecreasingBy-insert, IsNonDecreasingBy-take}
use Rattle.list_laws.specs.Greatest.{last_greatest}
use Rattle.list_laws.proofs.Laws.{last_of-at, last_greatest-sorted}
use Rattle.framehop_unwinder.specs.Modules.{with_module, without_module, has_start, last_end}

or-true : (b : Bool) → (b || true) ≡ true
or-true true = refl
or-true false = refl

and-false : (b : Bool) → (b && false) ≡ false
and-false true = refl
and-false false = refl

module _ {X : Type 0} (n : X → ℕ) where
  -- where none passes, the filter is empty
  filter-none : (p : X → Bool) (xs : List X) → ((k : ℕ) (d : X) → k < length xs → p (get_or xs k d) ≡ false) → filter p xs ≡ []
  filter-none p [] fails = refl
  filter-none p (x ∷ xs) fails = rw (fails 0 x (omega arith)) (filter-none p xs (λ k d h. fails (suc k) d (omega arith)))

  -- where exactly the first i pass, the filter is the first i
  filter-front : (p : X → Bool) (xs : List X) (i : ℕ) → i ≤ length xs
      → ((k : ℕ) (d : X) → k < i → p (get_or xs k d) ≡ true)
      → ((k : ℕ) (d : X) → i ≤ k → k < length xs → p (get_or xs k d) ≡ false)
      → filter p xs ≡ take i xs
  filter-front p [] i within passes fails = grind arith
  filter-front p (x ∷ xs) zero within passes fails = filter-none p (x ∷ xs) (λ k d h. fails k d (omega arith) h)
  filter-front p (x ∷ xs) (suc i) within passes fails =
      rw (passes 0 x (omega arith), filter-front p xs i (omega arith) (λ k d h. passes (suc k) d (omega arith)) (λ k d h l. fails (suc k) d (omega arith) (omega arith))) refl

  -- the one before the place where the keys pass a number is the last of the greatest up to it
  pub nearest-found : (xs : List X) (number i : ℕ) (d : X) → IsNonDecreasingBy n xs → i < length xs
      → ((k : ℕ) (d : X) → k < suc i → nat_le (n (get_or xs k d)) number ≡ true)
      → ((k : ℕ) (d : X) → suc i ≤ k → k < length xs → nat_le (n (get_or xs k d)) number ≡ false)
      → last_greatest n (filter (λ x. nat_le (n x) number) xs) ≡ Some (get_or xs i d)
  nearest-found xs number i d ordered within passes fails =
      let front : List X = take (suc i) xs in
      let len : length front ≡ suc i = length-take-le (suc i) xs (omega arith) in
      let same : filter (λ x. nat_le (n x) number) xs ≡ front = filter-front (λ x. nat_le (n x) number) xs (suc i) (omega arith) passes fails in
      let sorted : IsNonDecreasingBy n front = IsNonDecreasingBy-take n (suc i) xs ordered in
      rw same (last_greatest-sorted n front sorted ∙ last_of-at front i d len ∙ ap (λ x. Some x) (get_or-take (suc i) xs i d (omega arith)))

  -- where the first key is above a number, there is none
  pub nearest-none : (xs : List X) (number : ℕ) → ((k : ℕ) (d : X) → k < length xs → nat_le (n (get_or xs k d)) number ≡ false) → last_greatest n (filter (λ x. nat_le (n x) number) xs) ≡ None
  nearest-none xs number fails = rw (filter-none (λ x. nat_le (n x) number) xs fails) refl

  -- a new one goes before the first of an equal or a greater key
  pub insert-is : (xs : List X) (i : ℕ) (x : X) → i ≤ length xs
      → ((k : ℕ) (d : X) → k < i → nat_lt (n (get_or xs k d)) (n x) ≡ true)
      → ((k : ℕ) (d : X) → i ≤ k → k < length xs → nat_lt (n (get_or xs k d)) (n x) ≡ false)
      → insert xs i x ≡ with_module n x xs
  insert-is [] zero x within lower higher = refl
  insert-is [] (suc i) x within lower higher = absurd (omega arith)
  insert-is (y ∷ ys) zero x within lower higher =
      let here : nat_lt (n y) (n x) ≡ false = higher 0 y (omega arith) (omega arith) in
      let test : nat_le (n x) (n y) ≡ true = grind arith in
      rw test refl
  insert-is (y ∷ ys) (suc i) x within lower higher =
      let here : nat_lt (n y) (n x) ≡ true = lower 0 y (omega arith) in
      let test : nat_le (n x) (n y) ≡ false = grind arith in
      rw (test, ← insert-is ys i x (omega arith) (λ k d h. lower (suc k) d (omega arith)) (λ k d h l. higher (suc k) d (omega arith) (omega arith))) refl

  -- after an insert there, they are still in order
  pub insert-ordered : (xs : List X) (i : ℕ) (x : X) → IsNonDecreasingBy n xs → i ≤ length xs
      → ((k : ℕ) (d : X) → k < i → nat_lt (n (get_or xs k d)) (n x) ≡ true)
      → ((k : ℕ) (d : X) → i ≤ k → k < length xs → nat_lt (n (get_or xs k d)) (n x) ≡ false)
      → IsNonDecreasingBy n (insert xs i x)
  insert-ordered xs i x ordered within lower higher =
      IsNonDecreasingBy-insert n xs i x ordered within
      (λ k d h. let test = lower k d h in grind arith)
      (λ k d h l. let test = higher k d h l in grind arith)

  -- one has the key, or none has
  pub starts-at : (xs : List X) (number i : ℕ) (d : X) → i < length xs → n (get_or xs i d) ≡ number → has_start n number xs ≡ true
  starts-at [] number i d within is = absurd (omega arith)
  starts-at (x ∷ xs) number zero d within is = rw (eq-eqb (n x) number is) refl
  starts-at (x ∷ xs) number (suc i) d within is = rw (starts-at xs number i d (omega arith) is) (or-true (n x == number))

  pub starts-nowhere : (xs : List X) (number : ℕ) → ((k : ℕ) (d : X) → k < length xs → n (get_or xs k d) ≢ number) → has_start n number xs ≡ false
  starts-nowhere [] number differs = refl
  starts-nowhere (x ∷ xs) number differs =
      rw (ne_eqb (n x) number (differs 0 x (omega arith)), starts-nowhere xs number (λ k d h. differs (suc k) d (omega arith))) refl

  differs-at : (xs : List X) (number i k : ℕ) (d e : X) → IsNonDecreasingBy n xs → i < length xs → k < length xs → n (get_or xs i d) ≤ number → n (get_or xs i d) ≢ number
      → ((k : ℕ) (d : X) → suc i ≤ k → k < length xs → number < n (get_or xs k d)) → (k < suc i) ⊎ (suc i ≤ k) → n (get_or xs k e) ≢ number
  differs-at xs number i k d e ordered within h le differs above (inl low) same =
      let below = ordered k i e (omega arith) within in
      let one : n (get_or xs i e) ≡ n (get_or xs i d) = ap n (get_or_default xs i e d within) in
      differs (omega arith)
  differs-at xs number i k d e ordered within h le differs above (inr high) same = absurd (omega (arith, above k e high h))

  pub starts-nowhere-else : (xs : List X) (number i : ℕ) (d : X) → IsNonDecreasingBy n xs → i < length xs → n (get_or xs i d) ≤ number → n (get_or xs i d) ≢ number
      → ((k : ℕ) (d : X) → suc i ≤ k → k < length xs → number < n (get_or xs k d)) → has_start n number xs ≡ false
  starts-nowhere-else xs number i d ordered within le differs above = starts-nowhere xs number (λ k e h. differs-at xs number i k d e ordered within h le differs above (cases_lt k (suc i)))

  -- without the last of a key
  pub remove-is : (xs : List X) (number i : ℕ) (d : X) → i < length xs → n (get_or xs i d) ≡ number
      → ((k : ℕ) (d : X) → suc i ≤ k → k < length xs → n (get_or xs k d) ≢ number)
      → remove xs i ≡ without_module n number xs
  remove-is [] number i d within is differs = absurd (omega arith)
  remove-is (x ∷ xs) number zero d within is differs =
      rw (eq-eqb (n x) number is, starts-nowhere xs number (λ k d h. differs (suc k) d (omega arith) (omega arith))) refl
  remove-is (x ∷ xs) number (suc i) d within is differs =
      rw (starts-at xs number i d (omega arith) is, and-false (n x == number)) (ap (λ ys. x ∷ ys) (remove-is xs number i d (omega arith) is (λ k d h l. differs (suc k) d (omega arith) (omega arith))))

  -- where none has the key, there is nothing to remove
  pub without-none : (xs : List X) (number : ℕ) → has_start n number xs ≡ false → xs ≡ without_module n number xs
  without-none [] number nowhere = refl
  without-none (x ∷ xs) number nowhere =
      let parts = or_parts (n x == number) (has_start n number xs) nowhere in
      rw parts.0 (ap (λ ys. x ∷ ys) (without-none xs number parts.1))

  -- what a removal leaves is still in order
  both-below : (xs : List X) (i : ℕ) → i < length xs → IsNonDecreasingBy n xs → (j k : ℕ) (d : X) → j ≤ k → k < i → n (get_or (remove xs i) j d) ≤ n (get_or (remove xs i) k d)
  both-below xs i within ordered j k d le low =
      rw (get_or-remove_below xs i d j (omega arith) within, get_or-remove_below xs i d k low within) (ordered j k d le (omega arith))

  one-above : (xs : List X) (i : ℕ) → i < length xs → IsNonDecreasingBy n xs → (j k : ℕ) (d : X) → j < i → i ≤ k → k + 1 < length xs → n (get_or (remove xs i) j d) ≤ n (get_or (remove xs i) k d)
  one-above xs i within ordered j k d low high lt =
      rw (get_or-remove_below xs i d j low within, get_or-remove_above xs i d k high within) (ordered j (k + 1) d (omega arith) lt)

  both-above : (xs : List X) (i : ℕ) → i < length xs → IsNonDecreasingBy n xs → (j k : ℕ) (d : X) → j ≤ k → i ≤ j → k + 1 < length xs → n (get_or (remove xs i) j d) ≤ n (get_or (remove xs i) k d)
  both-above xs i within ordered j k d le high lt =
      rw (get_or-remove_above xs i d j high within, get_or-remove_above xs i d k (omega arith) within) (ordered (j + 1) (k + 1) d (omega arith) lt)

  from-below : (xs : List X) (i : ℕ) → i < length xs → IsNonDecreasingBy n xs → (j k : ℕ) (d : X) → j ≤ k → j < i → k + 1 < length xs → (k < i) ⊎ (i ≤ k) → n (get_or (remove xs i) j d) ≤ n (get_or (remove xs i) k d)
  from-below xs i within ordered j k d le low lt (inl lower) = both-below xs i within ordered j k d le lower
  from-below xs i within ordered j k d le low lt (inr higher) = one-above xs i within ordered j k d low higher lt

  in-either : (xs : List X) (i : ℕ) → i < length xs → IsNonDecreasingBy n xs → (j k : ℕ) (d : X) → j ≤ k → k + 1 < length xs → (j < i) ⊎ (i ≤ j) → n (get_or (remove xs i) j d) ≤ n (get_or (remove xs i) k d)
  in-either xs i within ordered j k d le lt (inl low) = from-below xs i within ordered j k d le low lt (cases_lt k i)
  in-either xs i within ordered j k d le lt (inr high) = both-above xs i within ordered j k d le high lt

  pub remove-ordered : (xs : List X) (i : ℕ) → i < length xs → IsNonDecreasingBy n xs → IsNonDecreasingBy n (remove xs i)
  remove-ordered xs i within ordered j k d le lt = let size = length-remove xs i within in in-either xs i within ordered j k d le (omega arith) (cases_lt j i)

  -- the end of the last
  pub last-end-at : (end : X → ℕ) (xs : List X) (x : X) → 0 < length xs → x ≡ get_or xs (length xs - 1) x → end x ≡ last_end end xs
  last-end-at end xs x some is = ap end is ∙ sym (ap (λ (o : Option X). unwrap_or (option_map end o) 0) (last_of-at xs (length xs - 1) x (omega arith)))
