-- Whether a cache can have so many slots, as a test.
use Rattle.std.proofs.Common.{◌≡◌, ℕ, zero, suc, ◌+◌, ◌<◌, ◌≤◌, ◌^◌, ◌⊎◌, inl, inr, Bool, true, false, ap, ◌∙◌, refl, arith}
use Rattle.std.specs.Prelude.{◌==◌, ◌||◌}
use Rattle.std.specs.List.{list_any, range_with_len}
use Rattle.std.proofs.lemmas.Bool.{cases_lt, eq-eqb}
use Rattle.std.proofs.lemmas.Bool.Decides.{Decides-eqb}
use Rattle.framehop_rules.specs.Slots.{IsSlotCount}
use Rattle.unwind_run_document.specs.Commands.{is_slot_count}

-- A number is a power of two, with an exponent from one on, of so many.
record IsPowerAmong (number from count : ℕ) : Type 0 where
  exponent : ℕ
  least : from ≤ exponent
  most : exponent < from + count
  is : number ≡ 2 ^ exponent

or-true : (b : Bool) → (b || true) ≡ true
or-true true = refl
or-true false = refl

one-more : (number from count : ℕ) (here later : Bool) → (number == 2 ^ from) ≡ here → (here || later) ≡ true
    → (later ≡ true → IsPowerAmong number (from + 1) count) → IsPowerAmong number from (suc count)
one-more number from count true later here is others =
    record { exponent = from; least = omega arith; most = omega arith; is = (Decides-eqb number (2 ^ from)).0 here }
one-more number from count false later here is others =
    let found = others is in
    let least = found.least in
    let most = found.most in
    record { exponent = found.exponent; least = omega arith; most = omega arith; is = found.is }

power-found : (number from count : ℕ) → list_any (λ exponent. number == 2 ^ exponent) (range_with_len from count) ≡ true → IsPowerAmong number from count
power-found number from zero is = absurd cc
power-found number from (suc count) is =
    one-more number from count (number == 2 ^ from) (list_any (λ exponent. number == 2 ^ exponent) (range_with_len (from + 1) count)) refl is (power-found number (from + 1) count)

found-further : (number from count exponent : ℕ) → from ≤ exponent → exponent < from + suc count → number ≡ 2 ^ exponent → (from < exponent) ⊎ (exponent ≤ from)
    → ((from + 1 ≤ exponent) → list_any (λ exponent. number == 2 ^ exponent) (range_with_len (from + 1) count) ≡ true)
    → list_any (λ exponent. number == 2 ^ exponent) (range_with_len from (suc count)) ≡ true
found-further number from count exponent least most is (inl above) others = rw (others (omega arith)) (or-true (number == 2 ^ from))
found-further number from count exponent least most is (inr below) others =
    let same : exponent ≡ from = omega arith in
    rw (eq-eqb number (2 ^ from) (is ∙ ap (λ n. 2 ^ n) same)) refl

found-power : (number from count exponent : ℕ) → from ≤ exponent → exponent < from + count → number ≡ 2 ^ exponent → list_any (λ exponent. number == 2 ^ exponent) (range_with_len from count) ≡ true
found-power number from zero exponent least most is = absurd (omega arith)
found-power number from (suc count) exponent least most is =
    found-further number from count exponent least most is (cases_lt from exponent) (λ above. found-power number (from + 1) count exponent above (omega arith) is)

pub counted : (count : ℕ) → IsSlotCount count → is_slot_count count ≡ true
unfolding is_slot_count
counted count (inl same) = rw (eq-eqb count 509 same) refl
counted count (inr pairs) =
    let most = pairs.most in
    rw (found-power count 1 20 pairs.exponent pairs.least (omega arith) pairs.is) (or-true (count == 509))

by-test : (count : ℕ) (here later : Bool) → (count == 509) ≡ here → (here || later) ≡ true → (later ≡ true → IsPowerAmong count 1 20) → IsSlotCount count
by-test count true later here is others = inl ((Decides-eqb count 509).0 here)
by-test count false later here is others =
    let found = others is in
    let most = found.most in
    inr (record { exponent = found.exponent; least = found.least; most = omega arith; is = found.is })

from-test : (count : ℕ) → is_slot_count count ≡ true → IsSlotCount count
unfolding is_slot_count
from-test count is = by-test count (count == 509) (list_any (λ exponent. count == 2 ^ exponent) (range_with_len 1 20)) refl is (power-found count 1 20)

not-true : (b : Bool) → (b ≡ true → ⊥) → b ≡ false
not-true true none = absurd (none refl)
not-true false none = refl

pub uncounted : (count : ℕ) → (IsSlotCount count → ⊥) → is_slot_count count ≡ false
uncounted count none = not-true (is_slot_count count) (λ is. none (from-test count is))
