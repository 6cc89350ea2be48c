-- Stacks that are counted by one kind of name, and then by another.
use Rattle.std.proofs.Common.{◌≡◌, ℕ, ◌+◌, ◌-◌, ◌^◌, min, List, [], ◌∷◌, map, Bool, true, false, cond, Option, Some, None, refl, sym, ap, ◌∙◌, arith}
use Rattle.std.proofs.lemmas.Cmp.{nat_list_cmp_total}
use Rattle.std.proofs.lemmas.Map.Text.{is_eq-slice_cmp}
use Rattle.std.proofs.lemmas.Slice.Eq.{bytes_eq-Decides}
use Rattle.std.specs.Cmp.Lexicographic.{slice_cmp}
use Rattle.std.specs.List.{AllByRecursion}
use Rattle.std.specs.List.Sorted.{IsStrictlySortedBy}
use Rattle.std.specs.Ordering.{is_eq, match_ordering, nat_cmp, ordering_reverse}
use Rattle.std.specs.Prelude.{bytes_eq}
use Rattle.std.specs.declared.cmp.Ordering.{Ordering}
use Rattle.std.specs.declared.cmp.Ordering.TheVariants.{Less, Equal, Greater}
use Rattle.folded_stacks.specs.CountLaws.{TextsAreCounted, as_text}
use Rattle.folded_stacks.specs.Lines.{Line, all_counted, count_of, counted, more_than, with_line}
use Rattle.folded_stacks.proofs.Order.{behind, kept, lines-are-in-order, none, stacks}
use Rattle.folded_stacks.proofs.Sums.{put}

-- ---- what is counted of a stack, sample by sample

-- a count after a sample more
abbrev pub added : List ℕ → Line → Option ℕ → Option ℕ
added stack more known = cond (bytes_eq stack more.stack) (Some (more_than known more.count)) known

abbrev pub tally : List ℕ → List Line → Option ℕ → Option ℕ
tally stack [] known = known
tally stack (sample ∷ samples) known = tally stack samples (added stack sample known)

choose : (b : Bool) (x y z : Option ℕ) → (b ≡ true → x ≡ y) → cond b x z ≡ cond b y z
choose true x y z same = same refl
choose false x y z same = refl

pub one-more : (stack : List ℕ) (more : Line) (lines : List Line) → count_of stack (counted more lines) ≡ added stack more (count_of stack lines)
one-more stack more lines =
    put stack (record { stack = more.stack; count = more_than (count_of more.stack lines) more.count }) lines
    ∙ choose (bytes_eq stack more.stack) (Some (more_than (count_of more.stack lines) more.count)) (Some (more_than (count_of stack lines) more.count)) (count_of stack lines)
    (λ is. ap (λ (u : List ℕ). Some (more_than (count_of u lines) more.count)) (sym ((bytes_eq-Decides stack more.stack).0 is)))

pub is-tally : (stack : List ℕ) (samples lines : List Line) → count_of stack (all_counted samples lines) ≡ tally stack samples (count_of stack lines)
is-tally stack [] lines = refl
is-tally stack (sample ∷ samples) lines =
    is-tally stack samples (counted sample lines) ∙ ap (λ (o : Option ℕ). tally stack samples o) (one-more stack sample lines)

-- ---- the order of samples doesn't matter

either-first : (c n m k : ℕ) → min (min (c + n) k + m) k ≡ min (min (c + m) k + n) k
either-first c n m k = omega arith

swap-by : (p q : Bool) (m n : ℕ) (known : Option ℕ)
    → cond p (Some (more_than (cond q (Some (more_than known n)) known) m)) (cond q (Some (more_than known n)) known)
    ≡ cond q (Some (more_than (cond p (Some (more_than known m)) known) n)) (cond p (Some (more_than known m)) known)
swap-by true true m n None = let same : min (n + m) (2 ^ 64 - 1) ≡ min (m + n) (2 ^ 64 - 1) = omega arith in ap (λ (k : ℕ). Some k) same
swap-by true true m n (Some c) = ap (λ (k : ℕ). Some k) (either-first c n m (2 ^ 64 - 1))
swap-by true false m n known = refl
swap-by false true m n known = refl
swap-by false false m n known = refl

swap : (stack : List ℕ) (a b : Line) (known : Option ℕ) → added stack a (added stack b known) ≡ added stack b (added stack a known)
swap stack a b known = swap-by (bytes_eq stack a.stack) (bytes_eq stack b.stack) a.count b.count known

pub later : (stack : List ℕ) (xs : List Line) (a : Line) (known : Option ℕ) → tally stack xs (added stack a known) ≡ added stack a (tally stack xs known)
later stack [] a known = refl
later stack (x ∷ xs) a known =
    ap (λ (o : Option ℕ). tally stack xs o) (swap stack x a known) ∙ later stack xs a (added stack x known)

-- ---- samples of a stack may be counted together

together : (d c w k : ℕ) → min (d + min (c + w) k) k ≡ min (min (d + c) k + w) k
together d c w k = omega arith

pub merged-by : (p : Bool) (c w : ℕ) (known : Option ℕ)
    → cond p (Some (more_than known (more_than (Some c) w))) known
    ≡ cond p (Some (more_than (cond p (Some (more_than known c)) known) w)) (cond p (Some (more_than known c)) known)
merged-by true c w None = refl
merged-by true c w (Some d) = ap (λ (k : ℕ). Some k) (together d c w (2 ^ 64 - 1))
merged-by false c w known = refl

-- ---- a stack that comes before those of lines isn't counted

absent : (stack : List ℕ) (lines : List Line) → AllByRecursion (λ y. slice_cmp nat_cmp stack y ≡ Less) (stacks lines) → count_of stack lines ≡ None
absent stack [] all = refl
absent stack (line ∷ lines) all =
    let test : bytes_eq stack line.stack ≡ false = sym (is_eq-slice_cmp stack line.stack) ∙ ap is_eq all.0 in
    ap (λ (b : Bool). cond b (Some line.count) (count_of stack lines)) test ∙ absent stack lines all.1

-- ---- lines in order that count the same are the same

differ : (x : List ℕ) (n : ℕ) (xs ys : List Line) → count_of x (record { stack = x; count = n } ∷ xs) ≡ count_of x ys → count_of x ys ≡ None → ⊥
differ x n xs ys alike none =
    let here : count_of x (record { stack = x; count = n } ∷ xs) ≡ Some n = ap (λ (b : Bool). cond b (Some n) (count_of x xs)) ((bytes_eq-Decides x x).1 refl) in
    let no : Some n ≡ None = sym here ∙ alike ∙ none in cc

tails : (b : Bool) (n : ℕ) (p q : Option ℕ) → (b ≡ true → p ≡ q) → cond b (Some n) p ≡ cond b (Some n) q → p ≡ q
tails true n p q both same = both refl
tails false n p q both same = same

mutual-by : (x y : Line) (xs ys : List Line) (o : Ordering) → slice_cmp nat_cmp x.stack y.stack ≡ o
    → IsStrictlySortedBy (slice_cmp nat_cmp) (stacks (x ∷ xs)) → IsStrictlySortedBy (slice_cmp nat_cmp) (stacks (y ∷ ys))
    → ((t : List ℕ) → count_of t (x ∷ xs) ≡ count_of t (y ∷ ys))
    → (((t : List ℕ) → count_of t xs ≡ count_of t ys) → xs ≡ ys) → x ∷ xs ≡ y ∷ ys
unfolding IsStrictlySortedBy
mutual-by x y xs ys Less is up up' alike rest =
    absurd (differ x.stack x.count xs (y ∷ ys) (alike x.stack) (absent x.stack (y ∷ ys) (is, behind x.stack y.stack (stacks ys) is up'.0)))
mutual-by x y xs ys Greater is up up' alike rest =
    let less : slice_cmp nat_cmp y.stack x.stack ≡ Less = nat_list_cmp_total.antisymm y.stack x.stack ∙ ap ordering_reverse is in
    absurd (differ y.stack y.count ys (x ∷ xs) (sym (alike y.stack)) (absent y.stack (x ∷ xs) (less, behind y.stack x.stack (stacks xs) less up.0)))
mutual-by x y xs ys Equal is up up' alike rest =
    let test : bytes_eq x.stack y.stack ≡ true = sym (is_eq-slice_cmp x.stack y.stack) ∙ ap is_eq is in
    let stack : x.stack ≡ y.stack = (bytes_eq-Decides x.stack y.stack).0 test in
    let here : count_of x.stack (x ∷ xs) ≡ Some x.count = ap (λ (b : Bool). cond b (Some x.count) (count_of x.stack xs)) ((bytes_eq-Decides x.stack x.stack).1 refl) in
    let there : count_of x.stack (y ∷ ys) ≡ Some y.count = ap (λ (b : Bool). cond b (Some y.count) (count_of x.stack ys)) test in
    let counts : Some x.count ≡ Some y.count = sym here ∙ alike x.stack ∙ there in
    let count : x.count ≡ y.count = cc in
    let head : x ≡ y = ap (λ (s : List ℕ). record { stack = s; count = x.count }) stack ∙ ap (λ (n : ℕ). record { stack = y.stack; count = n }) count in
    let others : (t : List ℕ) → count_of t xs ≡ count_of t ys = λ t.
    tails (bytes_eq t x.stack) x.count (count_of t xs) (count_of t ys)
    (λ at. let t_is : t ≡ x.stack = (bytes_eq-Decides t x.stack).0 at in
    ap (λ (u : List ℕ). count_of u xs) t_is ∙ absent x.stack xs up.0
    ∙ sym (absent y.stack ys up'.0) ∙ ap (λ (u : List ℕ). count_of u ys) (sym (t_is ∙ stack)))
    (alike t ∙ ap (λ (l : Line). cond (bytes_eq t l.stack) (Some l.count) (count_of t ys)) (sym head)) in
    ap (λ (l : Line). l ∷ xs) head ∙ ap (λ (ls : List Line). y ∷ ls) (rest others)

pub same : (xs ys : List Line) → IsStrictlySortedBy (slice_cmp nat_cmp) (stacks xs) → IsStrictlySortedBy (slice_cmp nat_cmp) (stacks ys)
    → ((t : List ℕ) → count_of t xs ≡ count_of t ys) → xs ≡ ys
unfolding IsStrictlySortedBy
same [] [] up up' alike = refl
same [] (y ∷ ys) up up' alike = absurd (differ y.stack y.count ys [] (sym (alike y.stack)) refl)
same (x ∷ xs) [] up up' alike = absurd (differ x.stack x.count xs [] (alike x.stack) refl)
same (x ∷ xs) (y ∷ ys) up up' alike =
    mutual-by x y xs ys (slice_cmp nat_cmp x.stack y.stack) refl up up' alike (λ rest. same xs ys up.1 up'.1 rest)

-- ---- a sample of a line, and then of its text

module _ (text : List ℕ → List ℕ) (stack : List ℕ) where
  abbrev texts : List Line → List Line
  texts lines = map (as_text text) lines

  put-by : (more other : Line) (others : List Line) (n : ℕ) (known : Option ℕ) (o : Ordering) → slice_cmp nat_cmp more.stack other.stack ≡ o
      → IsStrictlySortedBy (slice_cmp nat_cmp) (stacks (other ∷ others)) → n ≡ more_than (count_of more.stack (other ∷ others)) more.count
      → ((k : Option ℕ) → n ≡ more_than (count_of more.stack others) more.count
      → tally stack (texts (with_line (record { stack = more.stack; count = n }) others)) k ≡ added stack (as_text text more) (tally stack (texts others) k))
      → tally stack (texts (match_ordering o (record { stack = more.stack; count = n } ∷ other ∷ others) (record { stack = other.stack; count = n } ∷ others)
      (other ∷ with_line (record { stack = more.stack; count = n }) others))) known
      ≡ added stack (as_text text more) (tally stack (texts (other ∷ others)) known)
  unfolding IsStrictlySortedBy
  put-by more other others n known Less is up count further =
      let none : count_of more.stack (other ∷ others) ≡ None = absent more.stack (other ∷ others) (is, behind more.stack other.stack (stacks others) is up.0) in
      let alone : n ≡ more.count = count ∙ ap (λ (o : Option ℕ). more_than o more.count) none in
      ap (λ (k : ℕ). tally stack (texts (other ∷ others)) (added stack (record { stack = text more.stack; count = k }) known)) alone
      ∙ later stack (texts (other ∷ others)) (as_text text more) known
  put-by more other others n known Equal is up count further =
      let test : bytes_eq more.stack other.stack ≡ true = sym (is_eq-slice_cmp more.stack other.stack) ∙ ap is_eq is in
      let equal : more.stack ≡ other.stack = (bytes_eq-Decides more.stack other.stack).0 test in
      let sum : n ≡ more_than (Some other.count) more.count =
      count ∙ ap (λ (b : Bool). more_than (cond b (Some other.count) (count_of more.stack others)) more.count) test in
      ap (λ (k : ℕ). tally stack (texts others) (added stack (record { stack = text other.stack; count = k }) known)) sum
      ∙ ap (λ (o : Option ℕ). tally stack (texts others) o) (merged-by (bytes_eq stack (text other.stack)) other.count more.count known)
      ∙ ap (λ (s : List ℕ). tally stack (texts others) (added stack (record { stack = text s; count = more.count }) (added stack (as_text text other) known))) (sym equal)
      ∙ later stack (texts others) (as_text text more) (added stack (as_text text other) known)
  put-by more other others n known Greater is up count further =
      let test : bytes_eq more.stack other.stack ≡ false = sym (is_eq-slice_cmp more.stack other.stack) ∙ ap is_eq is in
      further (added stack (as_text text other) known)
      (count ∙ ap (λ (b : Bool). more_than (cond b (Some other.count) (count_of more.stack others)) more.count) test)

  put-text : (more : Line) (lines : List Line) (n : ℕ) (known : Option ℕ) → IsStrictlySortedBy (slice_cmp nat_cmp) (stacks lines)
      → n ≡ more_than (count_of more.stack lines) more.count
      → tally stack (texts (with_line (record { stack = more.stack; count = n }) lines)) known ≡ added stack (as_text text more) (tally stack (texts lines) known)
  unfolding IsStrictlySortedBy
  put-text more [] n known up count = ap (λ (k : ℕ). added stack (record { stack = text more.stack; count = k }) known) count
  put-text more (other ∷ others) n known up count =
      put-by more other others n known (slice_cmp nat_cmp more.stack other.stack) refl up count (λ k is. put-text more others n k up.1 is)

  all-texts : (samples lines : List Line) (known : Option ℕ) → IsStrictlySortedBy (slice_cmp nat_cmp) (stacks lines)
      → tally stack (texts (all_counted samples lines)) known ≡ tally stack (texts samples) (tally stack (texts lines) known)
  all-texts [] lines known up = refl
  all-texts (sample ∷ samples) lines known up =
      let count = more_than (count_of sample.stack lines) sample.count in
      all-texts samples (counted sample lines) known (kept (record { stack = sample.stack; count = count }) lines up)
      ∙ ap (λ (o : Option ℕ). tally stack (texts samples) o) (put-text sample lines count known up refl)

pub texts-are-counted : TextsAreCounted
texts-are-counted text samples =
    let lines = all_counted samples [] in
    same (all_counted (map (as_text text) lines) []) (all_counted (map (as_text text) samples) [])
    (lines-are-in-order (map (as_text text) lines)) (lines-are-in-order (map (as_text text) samples))
    (λ t. is-tally t (map (as_text text) lines) [] ∙ all-texts text t samples [] None none ∙ sym (is-tally t (map (as_text text) samples) []))
