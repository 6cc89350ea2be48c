-- RBP in a list of saved registers: it is the last of those that are left, until it is taken.
use Rattle.std.proofs.Common.{◌≡◌, ◌∙◌, ℕ, zero, suc, ◌+◌, ◌-◌, ◌<◌, ◌≤◌, refl, sym, ap, arith, List, [], ◌∷◌, ◌++◌, length, append_assoc, Option, Some, None}
use Rattle.std.specs.Prelude.{◌/◌, ◌%◌, map, slice_index_or}
use Rattle.std.specs.List.{flat_map, slice_get, remove, AllByRecursion}
use Rattle.std.specs.Option.{option_map}
use Rattle.framehop_compact.specs.SavedRegisters.{choices, arrangements, arrangement_count, saved_register_names, registers_of, saved_after_bp}
use Rattle.framehop_compact.specs.declared.x86_64.saved_registers.RegisterNameX86_64.{RegisterNameX86_64}
use Rattle.framehop_compact.specs.declared.x86_64.saved_registers.RegisterNameX86_64.TheVariants.{RBX, R12, R13, R14, R15, RBP}
use Rattle.framehop_compact.proofs.Arrangements.{IsTaken, all_mapped, all_taken, all_weaker, length_arrangements, none_taken, take_one}

-- another register than RBP
abbrev pub IsOther : RegisterNameX86_64 → Type 0
IsOther RBP = ⊥
IsOther other = Unit {0}

abbrev pub HasNoBp : List RegisterNameX86_64 → Type 0
HasNoBp [] = Unit {0}
HasNoBp (x ∷ xs) = IsOther x × HasNoBp xs

-- RBP is the last, and no other one is
abbrev pub HasBpLast : List RegisterNameX86_64 → Type 0
HasBpLast [] = ⊥
HasBpLast (x ∷ []) = x ≡ RBP
HasBpLast (x ∷ y ∷ xs) = IsOther x × HasBpLast (y ∷ xs)

-- ---- in the list of those that were taken

skip_other : (x : RegisterNameX86_64) (xs : List RegisterNameX86_64) → IsOther x → saved_after_bp (x ∷ xs) ≡ saved_after_bp xs
skip_other RBX xs other = refl
skip_other R12 xs other = refl
skip_other R13 xs other = refl
skip_other R14 xs other = refl
skip_other R15 xs other = refl
skip_other RBP xs other = absurd other

no_bp : (xs : List RegisterNameX86_64) → HasNoBp xs → saved_after_bp xs ≡ None
no_bp [] none = refl
no_bp (x ∷ xs) none = skip_other x xs none.0 ∙ no_bp xs none.1

after_bp : (xs more : List RegisterNameX86_64) → HasNoBp xs → saved_after_bp (xs ++ RBP ∷ more) ≡ Some (length more)
after_bp [] more none = refl
after_bp (x ∷ xs) more none = skip_other x (xs ++ RBP ∷ more) none.0 ∙ after_bp xs more none.1

no_bp-append : (xs : List RegisterNameX86_64) (x : RegisterNameX86_64) → HasNoBp xs → IsOther x → HasNoBp (xs ++ x ∷ [])
no_bp-append [] x none other = (other, tt)
no_bp-append (y ∷ xs) x none other = (none.0, no_bp-append xs x none.1 other)

-- ---- in the list of those that are left

other_at : (left : List RegisterNameX86_64) (i : ℕ) (d : RegisterNameX86_64) → HasBpLast left → suc i < length left → IsOther (slice_index_or left i d)
other_at [] i d last before = absurd last
other_at (x ∷ []) i d last before = absurd (omega arith)
other_at (x ∷ y ∷ xs) zero d last before = last.0
other_at (x ∷ y ∷ xs) (suc i) d last before = other_at (y ∷ xs) i d last.1 (omega arith)

bp_at : (left : List RegisterNameX86_64) (i : ℕ) (d : RegisterNameX86_64) → HasBpLast left → suc i ≡ length left → slice_index_or left i d ≡ RBP
bp_at [] i d last end = absurd last
bp_at (x ∷ []) zero d last end = last
bp_at (x ∷ []) (suc i) d last end = absurd (omega (arith, end))
bp_at (x ∷ y ∷ xs) zero d last end = absurd (omega (arith, end))
bp_at (x ∷ y ∷ xs) (suc i) d last end = bp_at (y ∷ xs) i d last.1 (omega (arith, end))

bp_stays : (left : List RegisterNameX86_64) (i : ℕ) → HasBpLast left → suc i < length left → HasBpLast (remove left i)
bp_stays [] i last before = absurd last
bp_stays (x ∷ []) i last before = absurd (omega arith)
bp_stays (x ∷ y ∷ xs) zero last before = last.1
bp_stays (x ∷ y ∷ []) (suc i) last before = absurd (omega arith)
bp_stays (x ∷ y ∷ z ∷ xs) (suc zero) last before = (last.0, last.1.1)
bp_stays (x ∷ y ∷ z ∷ xs) (suc (suc i)) last before = (last.0, bp_stays (y ∷ z ∷ xs) (suc i) last.1 (omega arith))

-- ---- arrangements of so many

all_append : {A : Type 0} (P : A → Type 0) (xs ys : List A) → AllByRecursion P xs → AllByRecursion P ys → AllByRecursion P (xs ++ ys)
all_append P [] ys first second = second
all_append P (x ∷ xs) ys first second = (first.0, all_append P xs ys first.1 second)

all_flat : {A B : Type 0} (P : B → Type 0) (f : A → List B) (xs : List A) → ((x : A) → AllByRecursion P (f x)) → AllByRecursion P (flat_map f xs)
all_flat P f [] each = tt
all_flat P f (x ∷ xs) each = all_append P (f x) (flat_map f xs) (each x) (all_flat P f xs each)

all_sized : {A : Type 0} (count : ℕ) (left : List A) → AllByRecursion (λ (list : List A). length list ≡ count) (arrangements count left)
unfolding arrangements
all_sized zero left = (refl, tt)
all_sized {A} (suc count) left =
    all_flat (λ (list : List A). length list ≡ suc count) (λ choice. map (λ list. choice.0 ∷ list) (arrangements count choice.1)) (choices left)
    (λ choice. all_mapped (λ (list : List A). length list ≡ suc count) (λ list. choice.0 ∷ list) (arrangements count choice.1)
    (all_weaker (λ (list : List A). length list ≡ count) (λ (list : List A). suc (length list) ≡ suc count) (arrangements count choice.1) (λ list e. ap suc e) (all_sized count choice.1)))

found : {A : Type 0} (P : A → Type 0) (xs : List A) (i : ℕ) → AllByRecursion P xs → i < length xs → (x : A) × (slice_get xs i ≡ Some x) × P x
found P [] i all within = absurd (omega arith)
found P (x ∷ xs) zero all within = (x, refl, all.0)
found P (x ∷ xs) (suc i) all within = found P xs i all.1 (omega arith)

-- ---- the loop

-- so many registers were taken, and RBP is left
abbrev pub IsLeft : (count start taken number : ℕ) → Type 0
IsLeft count start taken number =
    (registers : List RegisterNameX86_64) × (left : List RegisterNameX86_64) × IsTaken count start taken registers left number × HasNoBp registers × HasBpLast left

-- what comes after RBP in the list of a number
abbrev pub said : (count start : ℕ) → Option (Option ℕ)
said count start = option_map saved_after_bp (registers_of count start)

pub bp_left : (count start : ℕ) → IsLeft count start 0 start
bp_left count start = ([], saved_register_names, none_yet, tt, (tt, (tt, (tt, (tt, (tt, refl))))))
  where
    unchanged : (o : Option (List RegisterNameX86_64)) → option_map (λ list. [] ++ list) o ≡ o
    unchanged None = refl
    unchanged (Some list) = refl

    all : count - 0 ≡ count
    all = omega arith

    none_yet : IsTaken count start 0 [] saved_register_names start
    none_yet = record {
      rest = λ some. unchanged (slice_get (arrangements (count - 0) saved_register_names) start) ∙ ap (λ n. slice_get (arrangements n saved_register_names) start) all;
      within = λ some. absurd (omega arith);
      of_six = refl;
      so_many = refl;
    }

pub none_said : (count start taken number weight place : ℕ) → IsLeft count start taken number → taken < count → count ≤ 6
    → weight ≡ arrangement_count (count - 1 - taken) (5 - taken) → place ≡ number / weight → 5 - taken < place
    → said count start ≡ None
none_said count start taken number weight place (registers, left, is, none, last) more fits weight_is place_is past =
    let behind : 5 - taken ≡ length left - 1 = omega (arith, is.of_six) in
    ap (option_map saved_after_bp) (none_taken count start taken registers left number weight place is more fits (weight_is ∙ ap (arrangement_count (count - 1 - taken)) behind) place_is (omega (arith, is.of_six)))

pub another_taken : (count start taken number weight place : ℕ) → IsLeft count start taken number → taken < count → count ≤ 6
    → weight ≡ arrangement_count (count - 1 - taken) (5 - taken) → place ≡ number / weight → place < 5 - taken
    → IsLeft count start (taken + 1) (number % weight)
another_taken count start taken number weight place (registers, left, is, none, last) more fits weight_is place_is before =
    let behind : 5 - taken ≡ length left - 1 = omega (arith, is.of_six) in
    let x = slice_index_or left place RBP in
    let below : suc place < length left = omega (arith, before, is.of_six) in (
      registers ++ x ∷ [],
      remove left place,
      take_one count start taken registers left number weight place x is more fits (weight_is ∙ ap (arrangement_count (count - 1 - taken)) behind) place_is (omega (arith, below)) (same left place),
      no_bp-append registers x none (other_at left place RBP last below),
      bp_stays left place last below,
    )
  where
    same : (left : List RegisterNameX86_64) (i : ℕ) → slice_index_or left i RBP ≡ slice_index_or left i (slice_index_or left i RBP)
    same [] i = refl
    same (x ∷ xs) zero = refl
    same (x ∷ xs) (suc i) = same xs i

pub bp_taken : (count start taken number weight place : ℕ) → IsLeft count start taken number → taken < count → count ≤ 6
    → weight ≡ arrangement_count (count - 1 - taken) (5 - taken) → place ≡ number / weight → place ≡ 5 - taken
    → said count start ≡ Some (Some (count - 1 - taken))
bp_taken zero start taken number weight place is more fits weight_is place_is end = absurd (omega arith)
bp_taken (suc c) start taken number weight place (registers, left, is, none, last) more fits weight_is place_is end =
    let count : ℕ = suc c in
    let behind : 5 - taken ≡ length left - 1 = omega (arith, is.of_six) in
    let at_end : suc place ≡ length left = omega (arith, end, is.of_six, more, fits) in
    let next = take_one count start taken registers left number weight place RBP is more fits (weight_is ∙ ap (arrangement_count (count - 1 - taken)) behind) place_is (omega (arith, at_end)) (sym (bp_at left place RBP last at_end)) in
    let others : List (List RegisterNameX86_64) = arrangements (count - (taken + 1)) (remove left place) in
    let within : number % weight < length others = omega (arith, next.within (omega arith), length_arrangements (count - (taken + 1)) (remove left place)) in
    let (list, is_list, size) = found (λ (list : List RegisterNameX86_64). length list ≡ count - (taken + 1)) others (number % weight) (all_sized (count - (taken + 1)) (remove left place)) within in
    let size_is : length list ≡ count - 1 - taken = omega (arith, size) in
    ap (option_map saved_after_bp) (sym (next.rest (omega arith)) ∙ ap (option_map (λ more. (registers ++ RBP ∷ []) ++ more)) is_list)
    ∙ ap (λ l. Some (saved_after_bp l)) (append_assoc registers (RBP ∷ []) list)
    ∙ ap Some (after_bp registers list none) ∙ ap (λ n. Some (Some n)) size_is

pub bp_not_taken : (count start number : ℕ) → IsLeft count start count number → said count start ≡ Some None
bp_not_taken count start number (registers, left, is, none, last) =
    ap (option_map saved_after_bp) (sym (all_taken count start registers left number is)) ∙ ap Some (no_bp registers none)
