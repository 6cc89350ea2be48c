-- What can be decided by trying all of finitely many values.
use Rattle.std.proofs.Common.{◌≡◌, ◌≢◌, ◌∙◌, ℕ, zero, suc, ◌<◌, ◌≤◌, refl, sym, ap, subst, arith, ◌⊎◌, inl, inr, Bool, true, false, List, [], ◌∷◌, ◌++◌, length, append_assoc, length-append}
use Rattle.std.specs.Prelude.{ℤ}
use Rattle.std.specs.List.{AllByRecursion, flat_map}
use Rattle.std.proofs.lemmas.Bool.Decides.{Decides-eqb, Decides-ltb, Decides-int_eq}

-- What is the same is decided alike.
pub decide_as : {A B : Type 0} → (A → B) → (B → A) → Dec A → Dec B
decide_as to from (yes a) = yes (to a)
decide_as to from (no none) = no (λ b. none (from b))

-- Both of two.
pub decide_both : {A B : Type 0} → Dec A → Dec B → Dec (A × B)
decide_both (yes a) (yes b) = yes (a, b)
decide_both (yes a) (no none) = no (λ both. none both.1)
decide_both (no none) other = no (λ both. none both.0)

-- One of two.
pub decide_either : {A B : Type 0} → Dec A → Dec B → Dec (A ⊎ B)
decide_either (yes a) other = yes (inl a)
decide_either (no none) (yes b) = yes (inr b)
decide_either (no none) (no other) = no (λ either. elim either [ inl a ↦ none a | inr b ↦ other b ])

-- The opposite.
pub decide_not : {A : Type 0} → Dec A → Dec (¬ A)
decide_not (yes a) = no (λ none. none a)
decide_not (no none) = yes none

-- That a test is true exactly if something holds decides it.
pub decide_by : {A : Type 0} (test : Bool) → (test ≡ true → A) → (A → test ≡ true) → Dec A
decide_by true to from = yes (to refl)
decide_by false to from = no (λ a. let is = from a in cc)

-- Whether two numbers are equal.
pub decide_equal : (m n : ℕ) → Dec (m ≡ n)
decide_equal m n = let by = Decides-eqb m n in decide_by _ by.0 by.1

-- Whether a number is below another.
pub decide_below : (m n : ℕ) → Dec (m < n)
decide_below m n = let by = Decides-ltb m n in decide_by _ by.0 by.1

-- Whether two whole numbers are equal.
pub decide_equal_int : (m n : ℤ) → Dec (m ≡ n)
decide_equal_int m n = let by = Decides-int_eq m n in decide_by _ by.0 by.1

-- One of the numbers below a bound.
pub decide_some : (n : ℕ) (P : ℕ → Type 0) → ((k : ℕ) → Dec (P k)) → Dec ((k : ℕ) × (k < n) × P k)
decide_some zero P each = no (λ (k, fits, is). omega (arith, fits))
decide_some (suc n) P each = by (each n) (decide_some n P each)
  where
    by : Dec (P n) → Dec ((k : ℕ) × (k < n) × P k) → Dec ((k : ℕ) × (k < suc n) × P k)
    by (yes is) rest = yes (n, omega arith, is)
    by (no none) (yes (k, fits, is)) = yes (k, omega (arith, fits), is)
    by (no none) (no others) = no (λ (k, fits, is). elim (decide_equal k n) [
      | yes same ↦ none (subst P same is)
      | no other ↦ others (k, omega (arith, fits, other), is)
    ])

-- ---- bytes

head_same : (x y : ℕ) (xs ys : List ℕ) → x ∷ xs ≡ y ∷ ys → x ≡ y
head_same x y xs ys same = cc

tail_same : (x y : ℕ) (xs ys : List ℕ) → x ∷ xs ≡ y ∷ ys → xs ≡ ys
tail_same x y xs ys same = cc

-- The bytes begin with these.
abbrev pub Begins : List ℕ → List ℕ → Type 0
Begins bytes front = (suffix : List ℕ) × (bytes ≡ front ++ suffix)

pub decide_begins : (bytes front : List ℕ) → Dec (Begins bytes front)
decide_begins bytes [] = yes (bytes, refl)
decide_begins [] (y ∷ front) = no (λ (suffix, is). cc)
decide_begins (x ∷ bytes) (y ∷ front) = by (decide_equal x y) (decide_begins bytes front)
  where
    by : Dec (x ≡ y) → Dec (Begins bytes front) → Dec (Begins (x ∷ bytes) (y ∷ front))
    by (yes same) (yes (suffix, is)) = yes (suffix, cc)
    by (yes same) (no none) = no (λ (suffix, is). none (suffix, tail_same x y bytes (front ++ suffix) is))
    by (no other) rest = no (λ (suffix, is). other (head_same x y bytes (front ++ suffix) is))

-- The bytes are these.
pub decide_bytes : (xs ys : List ℕ) → Dec (xs ≡ ys)
decide_bytes [] [] = yes refl
decide_bytes [] (y ∷ ys) = no (λ is. cc)
decide_bytes (x ∷ xs) [] = no (λ is. cc)
decide_bytes (x ∷ xs) (y ∷ ys) = by (decide_equal x y) (decide_bytes xs ys)
  where
    by : Dec (x ≡ y) → Dec (xs ≡ ys) → Dec (x ∷ xs ≡ y ∷ ys)
    by (yes same) (yes is) = yes cc
    by (yes same) (no none) = no (λ is. none (tail_same x y xs ys is))
    by (no other) rest = no (λ is. other (head_same x y xs ys is))

-- The bytes end with these.
abbrev pub Ends : List ℕ → List ℕ → Type 0
Ends bytes end = (prefix : List ℕ) × (bytes ≡ prefix ++ end)

pub decide_ends : (bytes end : List ℕ) → Dec (Ends bytes end)
decide_ends [] end = decide_as (λ is. ([], sym is)) (λ (prefix, is). empty prefix is) (decide_bytes end [])
  where
    empty : (prefix : List ℕ) → [] ≡ prefix ++ end → end ≡ []
    empty [] is = sym is
    empty (x ∷ prefix) is = cc
decide_ends (x ∷ bytes) end = by (decide_bytes (x ∷ bytes) end) (decide_ends bytes end)
  where
    by : Dec (x ∷ bytes ≡ end) → Dec (Ends bytes end) → Dec (Ends (x ∷ bytes) end)
    by (yes is) rest = yes ([], is)
    by (no other) (yes (prefix, is)) = yes (x ∷ prefix, ap (λ bs. x ∷ bs) is)
    by (no other) (no none) = no (λ (prefix, is). of prefix is)
      where
        of : (prefix : List ℕ) → x ∷ bytes ≡ prefix ++ end → ⊥
        of [] is = other is
        of (y ∷ prefix) is = none (prefix, tail_same x y bytes (prefix ++ end) is)

after_front : (front a b : List ℕ) → front ++ a ≡ front ++ b → a ≡ b
after_front [] a b same = same
after_front (x ∷ front) a b same = after_front front a b (tail_same x x (front ++ a) (front ++ b) same)

-- The bytes begin with these, and this holds of the bytes after them.
abbrev pub BeginsThen : List ℕ → List ℕ → (List ℕ → Type 0) → Type 0
BeginsThen bytes front Q = (suffix : List ℕ) × (bytes ≡ front ++ suffix) × Q suffix

pub decide_begins_then : (bytes front : List ℕ) (Q : List ℕ → Type 0) → ((suffix : List ℕ) → bytes ≡ front ++ suffix → Dec (Q suffix)) → Dec (BeginsThen bytes front Q)
decide_begins_then bytes front Q each = by (decide_begins bytes front)
  where
    by : Dec (Begins bytes front) → Dec (BeginsThen bytes front Q)
    by (no none) = no (λ (suffix, is, after). none (suffix, is))
    by (yes (suffix, is)) = decide_as (λ after. (suffix, is, after))
        (λ (other, other_is, after). subst Q (after_front front other suffix (sym other_is ∙ is)) after) (each suffix is)

-- ---- instructions that spell bytes

-- Whether one of finitely many values that fit is as wanted.
abbrev pub CanTry : {A : Type 0} → (A → Type 0) → Type 1
CanTry {A} Fits = (P : A → Type 0) → ((x : A) → Dec (P x)) → Dec ((x : A) × Fits x × P x)

module _ {I : Type 0} (Fits : I → Type 0) (spell : I → List ℕ) (try : CanTry Fits) (some : (x : I) → 0 < length (spell x)) where
  -- Instructions that fit spell the bytes.
  abbrev pub IsRun : List ℕ → Type 0
  IsRun bytes = (xs : List I) × AllByRecursion Fits xs × (bytes ≡ flat_map spell xs)

  shorter : (bytes suffix : List ℕ) (n : ℕ) (x : I) → length bytes ≤ suc n → bytes ≡ spell x ++ suffix → length suffix ≤ n
  shorter bytes suffix n x few is = omega (arith, few, ap length is, length-append (spell x) suffix, some x)

  run_of : (n : ℕ) (bytes : List ℕ) → length bytes ≤ n → Dec (IsRun bytes)
  run_of n [] few = yes ([], tt, refl)
  run_of zero (b ∷ bytes) few = absurd (omega (arith, few))
  run_of (suc n) (b ∷ bytes) few =
      decide_as to from (try (λ x. BeginsThen (b ∷ bytes) (spell x) IsRun)
      (λ x. decide_begins_then (b ∷ bytes) (spell x) IsRun (λ suffix is. run_of n suffix (shorter (b ∷ bytes) suffix n x few is))))
    where
      to : (x : I) × Fits x × BeginsThen (b ∷ bytes) (spell x) IsRun → IsRun (b ∷ bytes)
      to (x, fits, (suffix, is, (xs, all, spelled))) = (x ∷ xs, (fits, all), is ∙ ap (λ bs. spell x ++ bs) spelled)

      from : IsRun (b ∷ bytes) → (x : I) × Fits x × BeginsThen (b ∷ bytes) (spell x) IsRun
      from ([], all, is) = cc
      from (x ∷ xs, all, is) = (x, all.0, (flat_map spell xs, is, (xs, all.1, refl)))

  -- The bytes end with instructions, and with no run of instructions that begins further back.
  pub record Longest (bytes : List ℕ) : Type 0 where
    pub prefix : List ℕ
    pub run : List I
    pub all : AllByRecursion Fits run
    pub spelled : bytes ≡ prefix ++ flat_map spell run
    pub longest : (other_prefix : List ℕ) (others : List I) → AllByRecursion Fits others → bytes ≡ other_prefix ++ flat_map spell others
        → length prefix ≤ length other_prefix

  pub longest : (bytes : List ℕ) → Longest bytes
  longest [] = record { prefix = []; run = []; all = tt; spelled = refl; longest = λ other_prefix others all is. omega arith }
  longest (b ∷ bytes) = by (run_of (length (b ∷ bytes)) (b ∷ bytes) (omega arith)) (longest bytes)
    where
      by : Dec (IsRun (b ∷ bytes)) → Longest bytes → Longest (b ∷ bytes)
      by (yes (xs, all, is)) rest = record { prefix = []; run = xs; all = all; spelled = is; longest = λ other_prefix others all is. omega arith }
      by (no none) rest = record {
        prefix = b ∷ rest.prefix;
        run = rest.run;
        all = rest.all;
        spelled = ap (λ bs. b ∷ bs) rest.spelled;
        longest = far;
      }
        where
          far : (other_prefix : List ℕ) (others : List I) → AllByRecursion Fits others → b ∷ bytes ≡ other_prefix ++ flat_map spell others → length (b ∷ rest.prefix) ≤ length other_prefix
          far [] others all is = absurd (none (others, all, is))
          far (x ∷ other_prefix) others all is = omega (arith, rest.longest other_prefix others all (tail_same b x bytes (other_prefix ++ flat_map spell others) is))

  -- The bytes begin with instructions, and the bytes after them with none.
  pub record Whole (bytes : List ℕ) : Type 0 where
    pub run : List I
    pub all : AllByRecursion Fits run
    pub suffix : List ℕ
    pub spelled : bytes ≡ flat_map spell run ++ suffix
    pub ended : (x : I) (more : List ℕ) → Fits x → suffix ≢ spell x ++ more

  whole_of : (n : ℕ) (bytes : List ℕ) → length bytes ≤ n → Whole bytes
  whole_of zero bytes few = record {
    run = [];
    all = tt;
    suffix = bytes;
    spelled = refl;
    ended = λ x more fits is. omega (arith, few, ap length is, length-append (spell x) more, some x);
  }
  whole_of (suc n) bytes few =
      by (try (λ x. Begins bytes (spell x)) (λ x. decide_begins bytes (spell x))) (λ x suffix is. whole_of n suffix (shorter bytes suffix n x few is))
    where
      by : Dec ((x : I) × Fits x × Begins bytes (spell x)) → ((x : I) (suffix : List ℕ) → bytes ≡ spell x ++ suffix → Whole suffix) → Whole bytes
      by (no none) on = record { run = []; all = tt; suffix = bytes; spelled = refl; ended = λ x more fits is. none (x, fits, (more, is)) }
      by (yes (x, fits, (suffix, is))) on =
          let rest = on x suffix is in
          record {
            run = x ∷ rest.run;
            all = (fits, rest.all);
            suffix = rest.suffix;
            spelled = is ∙ ap (λ bs. spell x ++ bs) rest.spelled ∙ sym (append_assoc (spell x) (flat_map spell rest.run) rest.suffix);
            ended = rest.ended;
          }

  pub whole : (bytes : List ℕ) → Whole bytes
  whole bytes = whole_of (length bytes) bytes (omega arith)
