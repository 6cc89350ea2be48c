-- RBP in the list with a number, by the list of all six with the number of the first that begins with it.
use Rattle.std.proofs.Common.{◌≡◌, ◌∙◌, ℕ, zero, suc, ◌+◌, ◌-◌, ◌*◌, ◌<◌, ◌≤◌, true, false, if◌then◌else◌, refl, sym, ap, subst, inl, inr, arith, map, get_or, Option, Some, None}
use Rattle.std.specs.Prelude.{◌/◌, ◌%◌, ◌==◌, nat_lt}
use Rattle.std.specs.List.{range_with_len}
use Rattle.std.proofs.lemmas.Bool.{cases_lt}
use Rattle.std.proofs.lemmas.Bool.Decides.{nat_tests}
use Rattle.std.proofs.lemmas.List.FromFn.{get_or-map-range_with_len}
use Rattle.std.proofs.Math.Nat.{div-lt_iff_lt-mul, mod-lt}
use Rattle.framehop_compact.specs.SavedRegisters.{arrangement_count, factorial}
use Rattle.framehop_compact.specs.declared.x86_64.saved_registers.TheConstants.{BEFORE_BP}
use Rattle.framehop_compact.proofs.PlaceOfBp.{IsLeft, another_taken, bp_left, bp_not_taken, bp_taken, none_said, said}
use Rattle.framehop_compact.proofs.Weights.{IsScaled, scaled_place, scaled_rest, some_factorial}

-- how many of so many others that are left come before RBP in the list of all of them with a number
abbrev pub others_before : ℕ → ℕ → ℕ
others_before zero number = 0
others_before (suc others) number =
    if number / factorial (suc others) == suc others then 0 else suc (others_before others (number % factorial (suc others)))

-- what is said if so many come before RBP in the list of all six
abbrev pub said_before : ℕ → ℕ → Option (Option ℕ)
said_before count before = if nat_lt before count then Some (Some (count - 1 - before)) else Some None

pub said_if_saved : (count before : ℕ) → before < count → Some (Some (count - 1 - before)) ≡ said_before count before
said_if_saved count before saved =
    let test : nat_lt before count ≡ true = grind (arith, nat_tests) in
    sym (ap (λ b. if b then Some (Some (count - 1 - before)) else Some None) test)

pub said_if_not : (count before : ℕ) → count ≤ before → Some None ≡ said_before count before
said_if_not count before past =
    let test : nat_lt before count ≡ false = grind (arith, nat_tests) in
    sym (ap (λ b. if b then Some (Some (count - 1 - before)) else Some None) test)

place_is : (others count start taken rest : ℕ) → taken + others ≡ 5 → taken < count → count ≤ 6 → (known : IsScaled count start taken rest)
    → rest / factorial others ≡ known.number / arrangement_count (count - 1 - taken) (5 - taken)
place_is others count start taken rest all more fits known =
    let behind : others ≡ 5 - taken = omega arith in
    scaled_place count taken known.number rest (factorial others) more fits known.scaled (ap factorial behind)

chosen : (others count start taken rest : ℕ) → taken + others ≡ 5 → taken < count → count ≤ 6 → IsScaled count start taken rest
    → rest / factorial others ≡ others → said count start ≡ Some (Some (count - 1 - taken))
chosen others count start taken rest all more fits known end =
    let w = arrangement_count (count - 1 - taken) (5 - taken) in
    let place = place_is others count start taken rest all more fits known in
    bp_taken count start taken known.number w (known.number / w) known.is more fits refl refl (omega (arith, place))

passed : (others count start taken rest : ℕ) → taken + others ≡ 5 → taken < count → count ≤ 6 → IsScaled count start taken rest
    → rest / factorial others < others → IsScaled count start (taken + 1) (rest % factorial others)
passed others count start taken rest all more fits known before =
    let w = arrangement_count (count - 1 - taken) (5 - taken) in
    let behind : others ≡ 5 - taken = omega arith in
    let place = place_is others count start taken rest all more fits known in
    record {
      number = known.number % w;
      scaled = scaled_rest count taken known.number rest (factorial others) more fits known.scaled (ap factorial behind);
      is = another_taken count start taken known.number w (known.number / w) known.is more fits refl refl (omega (arith, place));
      more = omega (arith, more);
    }

all_taken : (count start taken rest before : ℕ) → count ≤ taken → IsScaled count start taken rest → said count start ≡ said_before count (taken + before)
all_taken count start taken rest before past known =
    let all : taken ≡ count = omega (arith, known.more) in
    bp_not_taken count start known.number (subst (λ t. IsLeft count start t known.number) all known.is) ∙ said_if_not count (taken + before) (omega arith)

at_once : (others count start taken rest before : ℕ) → taken + others ≡ 5 → taken < count → count ≤ 6 → IsScaled count start taken rest
    → rest / factorial others ≡ others → before ≡ taken → said count start ≡ said_before count before
at_once others count start taken rest before all more fits known end none =
    chosen others count start taken rest all more fits known end ∙ said_if_saved count taken more ∙ ap (said_before count) (sym none)

said_by_rest : (others count start taken rest : ℕ) → taken + others ≡ 5 → count ≤ 6 → rest < factorial (suc others) → IsScaled count start taken rest
    → said count start ≡ said_before count (taken + others_before others rest)
said_by_rest zero count start taken rest all fits few known = elim (cases_lt taken count) [
  | inr past ↦ all_taken count start taken rest 0 past known
  | inl more ↦ at_once zero count start taken rest (taken + 0) all more fits known (omega (arith, few)) (omega arith)
]
said_by_rest (suc others) count start taken rest all fits few known = elim (cases_lt taken count) [
  | inr past ↦ all_taken count start taken rest (others_before (suc others) rest) past known
  | inl more ↦ elim (rest / factorial (suc others) == suc others) as (λ b. (rest / factorial (suc others) == suc others) ≡ b
      → said count start ≡ said_before count (taken + (if b then 0 else suc (others_before others (rest % factorial (suc others)))))) [
        | true ↦ λ e. at_once (suc others) count start taken rest (taken + 0) all more fits known (grind (arith, nat_tests)) (omega arith)
        | false ↦ λ e.
            let place : rest / factorial (suc others) < suc (suc others) = (div-lt_iff_lt-mul (some_factorial (suc others))).1 few in
            let other : rest / factorial (suc others) < suc others = grind (arith, nat_tests) in
            let next = passed (suc others) count start taken rest all more fits known other in
            let below : rest % factorial (suc others) < factorial (suc others) = mod-lt rest (some_factorial (suc others)) in
            let same : taken + 1 + others_before others (rest % factorial (suc others)) ≡ taken + suc (others_before others (rest % factorial (suc others))) = omega arith in
            said_by_rest others count start (taken + 1) (rest % factorial (suc others)) (omega arith) fits below next
            ∙ ap (said_before count) same
      ] refl
]

-- the table has them for all lists of six
table_is : BEFORE_BP ≡ map (others_before 5) (range_with_len 0 720)
table_is = refl

in_table : (number : ℕ) → number < 720 → get_or BEFORE_BP number 0 ≡ others_before 5 number
in_table number below = ap (λ t. get_or t number 0) table_is ∙ get_or-map-range_with_len (others_before 5) 0 720 number number 0 below (omega arith)

-- what is said, by the number of the first list of all six
pub said_by_number : (count start number : ℕ) → count ≤ 6 → number < 720 → number ≡ factorial (6 - count) * start
    → said count start ≡ said_before count (get_or BEFORE_BP number 0)
said_by_number count start number fits few is =
    let here : 0 + others_before 5 number ≡ get_or BEFORE_BP number 0 = omega (arith, in_table number few) in
    said_by_rest 5 count start 0 number refl fits few (record { number = start; scaled = is; is = bp_left count start; more = omega arith })
    ∙ ap (said_before count) here

-- no list has a number past the last, if it has a register
pub past_all : (count start number : ℕ) → 0 < count → count ≤ 6 → number ≡ factorial (6 - count) * start → 720 ≤ number → said count start ≡ None
past_all count start number some fits is past =
    let w = arrangement_count (count - 1 - 0) (5 - 0) in
    let place : number / factorial 5 ≡ start / w = scaled_place count 0 start number (factorial 5) some fits is refl in
    let far : 5 < number / 120 = omega (arith, past) in
    none_said count start 0 start w (start / w) (bp_left count start) some fits refl refl (omega (arith, place, far))
