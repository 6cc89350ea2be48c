-- Lists over ranges of depths.
use Rattle.std.proofs.Common.{◌≡◌, ℕ, zero, suc, ◌+◌, ◌-◌, ◌<◌, ◌≤◌, List, [], ◌∷◌, ◌++◌, map, take, replicate, reverse, refl, arith}
use Rattle.std.proofs.lemmas.List.{reverse-append}
use Rattle.std.specs.List.{range_with_len}

pub same_cons : {X : Type 0} (x y : X) (xs ys : List X) → x ≡ y → xs ≡ ys → x ∷ xs ≡ y ∷ ys
same_cons x y xs ys e es = cc

-- lists are the same if their elements are
pub map_same : {X : Type 0} (f g : ℕ → X) (a n : ℕ) → ((d : ℕ) → a ≤ d → d < a + n → f d ≡ g d)
    → map f (range_with_len a n) ≡ map g (range_with_len a n)
map_same f g a zero same = refl
map_same f g a (suc n) same =
    same_cons (f a) (g a) (map f (range_with_len (a + 1) n)) (map g (range_with_len (a + 1) n))
    (same a (omega arith) (omega arith))
    (map_same f g (a + 1) n (λ d low high. same d (omega arith) (omega arith)))

-- a list of one value
pub map_const : {X : Type 0} (f : ℕ → X) (v : X) (a n : ℕ) → ((d : ℕ) → a ≤ d → f d ≡ v)
    → map f (range_with_len a n) ≡ replicate n v
map_const f v a zero same = refl
map_const f v a (suc n) same =
    same_cons (f a) v (map f (range_with_len (a + 1) n)) (replicate n v)
    (same a (omega arith))
    (map_const f v (a + 1) n (λ d low. same d (omega arith)))

-- a list that is another one at first, and then has one value
pub refilled : {X : Type 0} (f g : ℕ → X) (v : X) (c a m n : ℕ) → c ≤ m → c ≤ n
    → ((d : ℕ) → a ≤ d → d < a + c → f d ≡ g d) → ((d : ℕ) → a + c ≤ d → f d ≡ v)
    → map f (range_with_len a n) ≡ take c (map g (range_with_len a m)) ++ replicate (n - c) v
refilled f g v zero a m n hm hn same rest =
    let none : n - 0 ≡ n = omega arith in
    rw none (map_const f v a n (λ d low. rest d (omega arith)))
refilled f g v (suc c) a zero n hm hn same rest = absurd (omega arith)
refilled f g v (suc c) a (suc m) zero hm hn same rest = absurd (omega arith)
refilled f g v (suc c) a (suc m) (suc n) hm hn same rest =
    let left : suc n - suc c ≡ n - c = omega arith in
    rw left (same_cons (f a) (g a) (map f (range_with_len (a + 1) n)) (take c (map g (range_with_len (a + 1) m)) ++ replicate (n - c) v)
    (same a (omega arith) (omega arith))
    (refilled f g v c (a + 1) m n (omega arith) (omega arith)
    (λ d low high. same d (omega arith) (omega arith)) (λ d low. rest d (omega arith))))

-- a reversed list with the element before
pub reverse_down : {X : Type 0} (f : ℕ → X) (k n : ℕ) → k < n
    → reverse (map f (range_with_len k (n - k))) ≡ reverse (map f (range_with_len (k + 1) (n - (k + 1)))) ++ f k ∷ []
reverse_down f k n h =
    let one : n - k ≡ suc (n - (k + 1)) = omega arith in
    rw one (reverse-append (f k ∷ []) (map f (range_with_len (k + 1) (n - (k + 1)))))
