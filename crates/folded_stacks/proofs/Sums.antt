-- What is counted of a stack.
use Rattle.std.proofs.Common.{◌≡◌, ℕ, ◌+◌, ◌-◌, ◌^◌, ◌<◌, min, List, [], ◌∷◌, Bool, true, false, cond, Option, Some, None, unwrap_or, lit<, zero-add, refl, sym, ap, ◌∙◌, arith}
use Rattle.std.proofs.lemmas.Map.Text.{is_eq-slice_cmp}
use Rattle.std.proofs.lemmas.Slice.Eq.{bytes_eq-Decides}
use Rattle.std.specs.Cmp.Lexicographic.{slice_cmp}
use Rattle.std.specs.List.{AllByRecursion}
use Rattle.std.specs.Ordering.{is_eq, match_ordering, nat_cmp}
use Rattle.std.specs.Prelude.{bytes_eq}
use Rattle.std.specs.declared.cmp.Ordering.{Ordering}
use Rattle.std.specs.declared.cmp.Ordering.TheVariants.{Less, Equal, Greater}
use Rattle.folded_stacks.specs.CountLaws.{CountsAreSums, samples_of}
use Rattle.folded_stacks.specs.Lines.{Line, all_counted, count_of, counted, more_than, with_line}

-- a test holds or fails
by_case : {P : Type 0} (b : Bool) → (b ≡ true → P) → (b ≡ false → P) → P
by_case true holds fails = holds refl
by_case false holds fails = fails refl

-- a choice within a choice
twice : {X : Type 0} (b : Bool) (x y z : X) → cond b x z ≡ cond b x (cond b y z)
twice true x y z = refl
twice false x y z = refl

-- of two choices that aren't made both, either may be the first
swapped : {X : Type 0} (a b : Bool) (x y z : X) → (a ≡ true → b ≡ true → ⊥) → cond b y (cond a x z) ≡ cond a x (cond b y z)
swapped true true x y z apart = absurd (apart refl refl)
swapped true false x y z apart = refl
swapped false true x y z apart = refl
swapped false false x y z apart = refl

module _ (stack : List ℕ) where
  put-by : (line other : Line) (others : List Line) (o : Ordering) → slice_cmp nat_cmp line.stack other.stack ≡ o
      → count_of stack (with_line line others) ≡ cond (bytes_eq stack line.stack) (Some line.count) (count_of stack others)
      → count_of stack (match_ordering o (line ∷ other ∷ others) (record { stack = other.stack; count = line.count } ∷ others) (other ∷ with_line line others))
      ≡ cond (bytes_eq stack line.stack) (Some line.count) (count_of stack (other ∷ others))
  put-by line other others Less is further = refl
  put-by line other others Equal is further =
      let equal : line.stack ≡ other.stack = (bytes_eq-Decides line.stack other.stack).0 (sym (is_eq-slice_cmp line.stack other.stack) ∙ ap is_eq is) in
      let test : bytes_eq stack other.stack ≡ bytes_eq stack line.stack = ap (bytes_eq stack) (sym equal) in
      ap (λ (b : Bool). cond b (Some line.count) (count_of stack others)) test
      ∙ twice (bytes_eq stack line.stack) (Some line.count) (Some other.count) (count_of stack others)
      ∙ ap (λ (b : Bool). cond (bytes_eq stack line.stack) (Some line.count) (cond b (Some other.count) (count_of stack others))) (sym test)
  put-by line other others Greater is further =
      ap (λ (o : Option ℕ). cond (bytes_eq stack other.stack) (Some other.count) o) further
      ∙ swapped (bytes_eq stack line.stack) (bytes_eq stack other.stack) (Some line.count) (Some other.count) (count_of stack others)
      (λ one two. let no : true ≡ false = differ one two in cc)
    where
      differ : bytes_eq stack line.stack ≡ true → bytes_eq stack other.stack ≡ true → true ≡ false
      differ one two =
          let equal : line.stack ≡ other.stack = sym ((bytes_eq-Decides stack line.stack).0 one) ∙ (bytes_eq-Decides stack other.stack).0 two in
          sym ((bytes_eq-Decides line.stack other.stack).1 equal) ∙ sym (is_eq-slice_cmp line.stack other.stack) ∙ ap is_eq is

  -- what is counted of a stack, once a line is in its place
  pub put : (line : Line) (lines : List Line) → count_of stack (with_line line lines) ≡ cond (bytes_eq stack line.stack) (Some line.count) (count_of stack lines)
  put line [] = refl
  put line (other ∷ others) = put-by line other others (slice_cmp nat_cmp line.stack other.stack) refl (put line others)

  -- the count of a stack, or 0
  abbrev count_in : List Line → ℕ
  count_in lines = unwrap_or (count_of stack lines) 0

  -- a sample more
  one : (more : Line) (lines : List Line) → count_in lines < 2 ^ 64 → more.count < 2 ^ 64
      → count_in (counted more lines) ≡ min (count_in lines + cond (bytes_eq stack more.stack) more.count 0) (2 ^ 64 - 1)
  one more lines small fits =
      let count = more_than (count_of more.stack lines) more.count in
      ap (λ (o : Option ℕ). unwrap_or o 0) (put (record { stack = more.stack; count = count }) lines)
      ∙ by_case (bytes_eq stack more.stack)
      (λ is.
      let equal : stack ≡ more.stack = (bytes_eq-Decides stack more.stack).0 is in
      ap (λ (b : Bool). unwrap_or (cond b (Some count) (count_of stack lines)) 0) is
      ∙ ap (λ (s : List ℕ). more_than (count_of s lines) more.count) (sym equal) ∙ summed (count_of stack lines) more.count fits
      ∙ ap (λ (b : Bool). min (count_in lines + cond b more.count 0) (2 ^ 64 - 1)) (sym is))
      (λ is.
      let same : count_in lines ≡ min (count_in lines + 0) (2 ^ 64 - 1) = omega arith in
      ap (λ (b : Bool). unwrap_or (cond b (Some count) (count_of stack lines)) 0) is ∙ same
      ∙ ap (λ (b : Bool). min (count_in lines + cond b more.count 0) (2 ^ 64 - 1)) (sym is))
    where
      summed : (known : Option ℕ) (n : ℕ) → n < 2 ^ 64 → more_than known n ≡ min (unwrap_or known 0 + n) (2 ^ 64 - 1)
      summed None n fits = omega arith
      summed (Some count) n fits = refl

  -- a count that has no room stays so
  more : (a k r m c : ℕ) → c ≡ min (a + k) m → min (c + r) m ≡ min (a + (k + r)) m
  more a k r m c is = omega arith

  -- samples more
  all : (samples lines : List Line) → count_in lines < 2 ^ 64 → AllByRecursion (λ sample. sample.count < 2 ^ 64) samples
      → count_in (all_counted samples lines) ≡ min (count_in lines + samples_of stack samples) (2 ^ 64 - 1)
  all [] lines small fits = omega arith
  all (sample ∷ samples) lines small fits =
      let counts = one sample lines small fits.0 in
      all samples (counted sample lines) (omega arith) fits.1
      ∙ more (count_in lines) (cond (bytes_eq stack sample.stack) sample.count 0) (samples_of stack samples) (2 ^ 64 - 1) (count_in (counted sample lines)) counts

pub counts-are-sums : CountsAreSums
counts-are-sums samples stack fits =
    all stack samples [] (lit< tt) fits ∙ ap (λ (n : ℕ). min n (2 ^ 64 - 1)) (zero-add (samples_of stack samples))
