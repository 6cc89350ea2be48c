-- What the searches and splits of a stretch say of each other.
use Rattle.std.proofs.Common.{◌≡◌, ℕ, ◌+◌, ◌-◌, ◌<◌, List, [], ◌∷◌, length, Bool, true, false, cond, Option, Some, None, option_map, Ok, Err, suc, nat_lt, refl, ap, sym, ◌∙◌, arith, length-drop, add_assoc}
use Rattle.std.proofs.lemmas.Bool.Decides.{nat_tests}
use Rattle.std.proofs.lemmas.List.{drop-drop}
use Rattle.dwarf_constants.specs.declared.error.Error.{Error}
use Rattle.dwarf_readers.specs.Stretch.{Stretch, ends_at, behind, behind_at, count_before, found_at, prefix, split_at}

-- one byte more before the first of a value
one_more : (here : Bool) (rest : Option ℕ) (k n : ℕ) → ((m : ℕ) → rest ≡ Some m → m < k) → cond here (Some 0) (option_map suc rest) ≡ Some n → n < suc k
one_more true rest k n below h = let e : 0 ≡ n = cc in omega arith
one_more false None k n below h = absurd (cc)
one_more false (Some m) k n below h = let e : suc m ≡ n = cc in omega (arith, below m refl)

-- the first of a value stands inside
pub count_before_lt : (byte : ℕ) (bs : List ℕ) (n : ℕ) → count_before byte bs ≡ Some n → n < length bs
count_before_lt byte [] n h = absurd (cc)
count_before_lt byte (b ∷ bs) n h = one_more _ (count_before byte bs) (length bs) n (count_before_lt byte bs) h

found_some : (s : Stretch) (found : Option ℕ) (n : ℕ) → found_at s found ≡ Ok n → found ≡ Some n
found_some s None n h = absurd (cc)
found_some s (Some m) n h = let e : m ≡ n = cc in ap Some e

pub refused_test : {A : Type 0} (t : Bool) (x e : Error) (y : A) → cond t (Err x) (Ok y) ≡ Err e → t ≡ true
refused_test true x e y h = refl
refused_test false x e y h = absurd (cc)

pub taken_test : {A : Type 0} (t : Bool) (x : Error) (y z : A) → cond t (Err x) (Ok y) ≡ Ok z → y ≡ z
taken_test true x y z h = absurd (cc)
taken_test false x y z h = cc

pub taken_false : {A : Type 0} (t : Bool) (x : Error) (y z : A) → cond t (Err x) (Ok y) ≡ Ok z → t ≡ false
taken_false true x y z h = absurd (cc)
taken_false false x y z h = refl

-- behind a stretch behind another
pub behind_behind : (m n : ℕ) (s : Stretch) → behind m (behind n s) ≡ behind (n + m) s
behind_behind m n s = rw (drop-drop m n s.bytes, add_assoc s.offset n m) refl

-- what is found can be split off
pub split_found : (s : Stretch) (n : ℕ) (e : Error) → found_at s (count_before 0 s.bytes) ≡ Ok n → split_at n s ≡ Err e → ⊥
split_found s n e found refused =
    let inside : n < length s.bytes = count_before_lt 0 s.bytes n (found_some s _ n found) in
    let short : nat_lt (length s.bytes) n ≡ true = refused_test _ _ e _ refused in
    grind (arith, nat_tests)

-- and one byte stands behind it
pub skip_found : (s rest part : Stretch) (n k : ℕ) (e : Error) → found_at s (count_before 0 s.bytes) ≡ Ok n → split_at n s ≡ Ok (part, rest) → k ≡ 1 → behind_at k rest ≡ Err e → ⊥
skip_found s rest part n k e found split one refused =
    let inside : n < length s.bytes = count_before_lt 0 s.bytes n (found_some s _ n found) in
    let is : (prefix n s, behind n s) ≡ (part, rest) = taken_test (nat_lt (length s.bytes) n) (ends_at s.offset) (prefix n s, behind n s) (part, rest) split in
    let left : length s.bytes - n ≡ length rest.bytes = sym (length-drop n s.bytes) ∙ ap (λ (p : Stretch × Stretch). length p.1.bytes) is in
    let short : nat_lt (length rest.bytes) k ≡ true = refused_test (nat_lt (length rest.bytes) k) (ends_at rest.offset) e (behind k rest) refused in
    grind (arith, nat_tests)

-- a count from i bytes on, as one from the start
abbrev pub later : ℕ → Option ℕ → Option ℕ
later i None = None
later i (Some m) = Some (i + m)
