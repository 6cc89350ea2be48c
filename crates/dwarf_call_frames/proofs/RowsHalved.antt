-- Halving of the rows from one index on, by how the start of the pivot was read.
use Rattle.std.proofs.Common.{◌≡◌, ℕ, zero, suc, ◌+◌, ◌-◌, ◌/◌, ◌<◌, ◌≤◌, true, false, cond, length, take, drop, Result, Ok, Err, refl, sym, ap, ◌∙◌, arith}
use Rattle.std.specs.Prelude.{◌==◌, nat_lt}
use Rattle.std.proofs.lemmas.Bool.Decides.{nat_tests}
use Rattle.dwarf_constants.specs.declared.error.Error.{Error}
use Rattle.dwarf_frame_rows.specs.declared.pointer.Pointer.{Pointer}
use Rattle.dwarf_call_frames.specs.Halving.{GivesHalving, Halving, TableRow, after_start, ended_at, first_start, first_target, halving}
use Rattle.dwarf_call_frames.specs.HeaderTable.{rows_between}
use Rattle.dwarf_call_frames.proofs.Halves.{Onwards, halving-more, halving-one}
use Rattle.dwarf_call_frames.proofs.RowsBetween.{drop-between, length-between, take-between}

-- one start more was read
abbrev pub one-more : Halving → Halving
one-more h = record { reached = h.reached; reads = suc h.reads }

module _ (row : ℕ → TableRow) (address first count : ℕ) where
  -- the pivot's start decides
  by-start : (start : Result ℕ Error) → Halving
  by-start start = after_start start (λ pivot. cond (pivot == address) (ended_at (rows_between row (first + count / 2) (count - count / 2)))
      (cond (nat_lt pivot address) (halving address (rows_between row (first + count / 2) (count - count / 2))) (halving address (rows_between row first (count / 2)))))

  start-of-first : (from n : ℕ) → 0 < n → first_start (rows_between row from n) ≡ (row from).start
  start-of-first from zero some = absurd (omega arith)
  start-of-first from (suc n) some = refl

  target-of-first : (from n : ℕ) → 0 < n → first_target (rows_between row from n) ≡ (row from).target
  target-of-first from zero some = absurd (omega arith)
  target-of-first from (suc n) some = refl

  parts : 1 < count → halving address (rows_between row first count) ≡ Onwards halving address (rows_between row first (count / 2)) (rows_between row (first + count / 2) (count - count / 2))
  parts more =
      let half : ℕ = count / 2 in
      let sum : half + (count - half) ≡ count = omega arith in
      let len = length-between row first count in
      let at : length (rows_between row first count) / 2 ≡ half = ap (λ n. n / 2) len in
      let front : take half (rows_between row first count) ≡ rows_between row first half = ap (λ n. take half (rows_between row first n)) (sym sum) ∙ take-between row first half (count - half) in
      let back : drop half (rows_between row first count) ≡ rows_between row (first + half) (count - half) = ap (λ n. drop half (rows_between row first n)) (sym sum) ∙ drop-between row first half (count - half) in
      halving-more address (rows_between row first count) (rows_between row first half) (rows_between row (first + half) (count - half)) (omega arith)
      (ap (λ n. take n (rows_between row first count)) at ∙ front) (ap (λ n. drop n (rows_between row first count)) at ∙ back)

  read : 1 < count → halving address (rows_between row first count) ≡ by-start (row (first + count / 2)).start
  unfolding by-start
  read more = parts more ∙ ap by-start (start-of-first (first + count / 2) (count - count / 2) (omega arith))

  -- it is refused
  pub halved-refused : (e : Error) → 1 < count → (row (first + count / 2)).start ≡ Err e → halving address (rows_between row first count) ≡ record { reached = Err e; reads = 1 }
  unfolding by-start
  halved-refused e more is = read more ∙ ap by-start is

  -- it is the address
  pub halved-at : (start : ℕ) → 1 < count → (row (first + count / 2)).start ≡ Ok start → start ≡ address
      → halving address (rows_between row first count) ≡ record { reached = (row (first + count / 2)).target; reads = 1 }
  unfolding by-start
  halved-at start more is at =
      let same : (start == address) ≡ true = grind (arith, nat_tests) in
      let ended = target-of-first (first + count / 2) (count - count / 2) (omega arith) in
      read more ∙ ap by-start is ∙ rw (same, ended) refl

  -- it is below the address
  pub halved-below : (start : ℕ) → 1 < count → (row (first + count / 2)).start ≡ Ok start → start < address
      → halving address (rows_between row first count) ≡ one-more (halving address (rows_between row (first + count / 2) (count - count / 2)))
  unfolding by-start
  halved-below start more is below =
      let other : (start == address) ≡ false = grind (arith, nat_tests) in
      let less : nat_lt start address ≡ true = grind (arith, nat_tests) in
      read more ∙ ap by-start is ∙ rw (other, less) refl

  -- it is above the address
  pub halved-above : (start : ℕ) → 1 < count → (row (first + count / 2)).start ≡ Ok start → address < start
      → halving address (rows_between row first count) ≡ one-more (halving address (rows_between row first (count / 2)))
  unfolding by-start
  halved-above start more is above =
      let other : (start == address) ≡ false = grind (arith, nat_tests) in
      let less : nat_lt start address ≡ false = grind (arith, nat_tests) in
      read more ∙ ap by-start is ∙ rw (other, less) refl

  -- one row is left
  pub halved-one : count ≡ 1 → halving address (rows_between row first count) ≡ record { reached = (row first).target; reads = 0 }
  halved-one one =
      let few : length (rows_between row first count) ≤ 1 = omega (arith, length-between row first count) in
      let ended = target-of-first first count (omega arith) in
      halving-one address (rows_between row first count) few ∙ rw ended refl

-- ---- a look-up, half by half

-- so many rows from one on are left: halving them comes to what halving all does, behind the starts that were read
pub record Left (row : ℕ → TableRow) (address total first count before now : ℕ) : Type 0 where
  pub some : 0 < count
  pub within : first + count ≤ total
  pub reached : (halving address (rows_between row 0 total)).reached ≡ (halving address (rows_between row first count)).reached
  pub counted : before + (halving address (rows_between row 0 total)).reads ≡ now + (halving address (rows_between row first count)).reads

module _ (row : ℕ → TableRow) (address total first count before now : ℕ) (left : Left row address total first count before now) where
  ended : (halved : Halving) (answer : Result Pointer Error) (after : ℕ) → halving address (rows_between row first count) ≡ halved → answer ≡ halved.reached → after ≡ now + halved.reads
      → GivesHalving (halving address (rows_between row 0 total)) answer before after
  ended halved answer after all is counted = record {
    row = is ∙ sym (ap (λ h. h.reached) all) ∙ sym left.reached;
    counted = omega (arith, counted, ap (λ h. h.reads) all, left.counted);
  }

  gone-on : (next n : ℕ) → halving address (rows_between row first count) ≡ one-more (halving address (rows_between row next n)) → 0 < n → next + n ≤ first + count
      → (after : ℕ) → after ≡ now + 1 → Left row address total next n before after
  gone-on next n all some within after ticked = record {
    some = some;
    within = omega (arith, within, left.within);
    reached = left.reached ∙ ap (λ h. h.reached) all;
    counted = omega (arith, ticked, ap (λ h. h.reads) all, left.counted);
  }

  -- the pivot's start was read
  module _ (after : ℕ) (ticked : after ≡ now + 1) (more : 1 < count) where
    pub ended-refused : (e : Error) (answer : Result Pointer Error) → Err e ≡ (row (first + count / 2)).start → answer ≡ Err e → GivesHalving (halving address (rows_between row 0 total)) answer before after
    ended-refused e answer start is = ended (record { reached = Err e; reads = 1 }) answer after (halved-refused row address first count e more (sym start)) is ticked

    module _ (start : ℕ) (is : Ok start ≡ (row (first + count / 2)).start) where
      pub ended-at-pivot : (answer : Result Pointer Error) → start ≡ address → answer ≡ (row (first + count / 2)).target → GivesHalving (halving address (rows_between row 0 total)) answer before after
      ended-at-pivot answer at target = ended (record { reached = (row (first + count / 2)).target; reads = 1 }) answer after (halved-at row address first count start more (sym is) at) target ticked

      pub left-below : start < address → Left row address total (first + count / 2) (count - count / 2) before after
      left-below below = gone-on (first + count / 2) (count - count / 2) (halved-below row address first count start more (sym is) below) (omega (arith, more)) (omega (arith, more)) after ticked

      pub left-above : address < start → Left row address total first (count / 2) before after
      left-above above = gone-on first (count / 2) (halved-above row address first count start more (sym is) above) (omega (arith, more)) (omega (arith, more)) after ticked

  -- one row is left
  pub ended-one : count ≤ 1 → (answer : Result Pointer Error) → answer ≡ (row first).target → GivesHalving (halving address (rows_between row 0 total)) answer before now
  ended-one few answer is = ended (record { reached = (row first).target; reads = 0 }) answer now (halved-one row address first count (omega (arith, left.some, few))) is (omega arith)
