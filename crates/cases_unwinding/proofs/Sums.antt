-- Steps of the reading of numbers to the end.
use Rattle.std.proofs.Common.{◌≡◌, ℕ, zero, suc, ◌+◌, ◌%◌, ◌^◌, ◌<◌, ◌≤◌, ◌==◌, List, [], ◌∷◌, ◌++◌, length, sum, true, false, Result, Ok, Err, refl, sym, ◌∙◌, arith}
use Rattle.std.proofs.lemmas.Grind.{common_steps}
use Rattle.std.proofs.lemmas.List.{length_push}
use Rattle.dwarf_constants.specs.declared.error.Error.{Error}
use Rattle.dwarf_readers.specs.Leb128.{unsigned_at}
use Rattle.dwarf_readers.specs.Stretch.{Stretch}
use Rattle.cases_unwinding.specs.Numbers.{numbers_in, numbers_within, tally_in}

-- a count of steps that is large enough, and by which the answer is this
pub record Within (seen : List ℕ) (s : Stretch) (answer : Result (List ℕ) Error) : Type 0 where
  pub steps : ℕ
  pub enough : length s.bytes < steps
  pub same : numbers_within steps seen s ≡ answer

-- the numbers so far are of this count and sum, and with what is left they make the answer
pub record Tallied (whole s : Stretch) (count total : ℕ) : Type 0 where
  pub seen : List ℕ
  pub within : Within seen s (numbers_in whole)
  pub counted : count ≡ length seen
  pub summed : total ≡ sum seen % 2 ^ 64
  pub room : count + length s.bytes ≤ length whole.bytes

ended : (n : ℕ) (seen : List ℕ) (s : Stretch) → length s.bytes < n → (length s.bytes == 0) ≡ true → numbers_within n seen s ≡ Ok seen
ended zero seen s enough empty = absurd (omega arith)
ended (suc n) seen s enough empty = rw empty refl

refused : (n : ℕ) (seen : List ℕ) (s : Stretch) (e : Error) → length s.bytes < n → (length s.bytes == 0) ≡ false → unsigned_at s ≡ Err e → numbers_within n seen s ≡ Err e
refused zero seen s e enough some read = absurd (omega arith)
refused (suc n) seen s e enough some read = rw (some, read) refl

goes_on : (n : ℕ) (seen : List ℕ) (s t : Stretch) (v : ℕ) (answer : Result (List ℕ) Error) → length s.bytes < n → numbers_within n seen s ≡ answer → (length s.bytes == 0) ≡ false → unsigned_at s ≡ Ok (v, t) → length t.bytes < length s.bytes → Within (seen ++ v ∷ []) t answer
goes_on zero seen s t v answer enough same some read less = absurd (omega arith)
goes_on (suc n) seen s t v answer enough same some read less = record {
  steps = n;
  enough = omega arith;
  same = (rw (some, read) at same);
}

pub tallied_start : (s : Stretch) → Tallied s s 0 0
unfolding numbers_in
tallied_start s = record {
  seen = [];
  within = record { steps = suc (length s.bytes); enough = omega arith; same = refl };
  counted = refl;
  summed = refl;
  room = omega arith;
}

sum_more : (seen : List ℕ) (v total : ℕ) → total ≡ sum seen % 2 ^ 64 → (total + v) % 2 ^ 64 ≡ sum (seen ++ v ∷ []) % 2 ^ 64
sum_more seen v total summed = let more : sum (seen ++ v ∷ []) ≡ sum seen + v = grind (arith, common_steps) in omega arith

pub tallied_more : (whole s t : Stretch) (count total v : ℕ) → Tallied whole s count total → (length s.bytes == 0) ≡ false → unsigned_at s ≡ Ok (v, t) → length t.bytes < length s.bytes → Tallied whole t (count + 1) ((total + v) % 2 ^ 64)
tallied_more whole s t count total v so_far some read less = record {
  seen = so_far.seen ++ v ∷ [];
  within = goes_on so_far.within.steps so_far.seen s t v (numbers_in whole) so_far.within.enough so_far.within.same some read less;
  counted = omega (arith, length_push so_far.seen v);
  summed = sum_more so_far.seen v total so_far.summed;
  room = omega arith;
}

pub tallied_end : (whole s : Stretch) (count total : ℕ) → Tallied whole s count total → (length s.bytes == 0) ≡ true → tally_in whole ≡ Ok (count, total)
tallied_end whole s count total so_far empty =
    let is : numbers_in whole ≡ Ok so_far.seen = sym so_far.within.same ∙ ended so_far.within.steps so_far.seen s so_far.within.enough empty in
    rw (is, so_far.counted, so_far.summed) refl

pub tallied_refused : (whole s : Stretch) (count total : ℕ) (e : Error) → Tallied whole s count total → (length s.bytes == 0) ≡ false → unsigned_at s ≡ Err e → tally_in whole ≡ Err e
tallied_refused whole s count total e so_far some read =
    let is : numbers_in whole ≡ Err e = sym so_far.within.same ∙ refused so_far.within.steps so_far.seen s e so_far.within.enough some read in
    rw is refl
