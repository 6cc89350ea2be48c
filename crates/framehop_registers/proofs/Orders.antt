-- Lists of registers: distinct ones, and what is left of them once one changes places with the first.
use Rattle.std.proofs.Common.{◌≡◌, ◌≢◌, ℕ, zero, suc, ◌+◌, ◌<◌, ◌==◌, true, false, ◌⊎◌, List, [], ◌∷◌, ◌++◌, length, length-drop, length-append, drop, swap, slice_index_or, set, drop-drop, add-zero, le_of_suc-le-suc, AllPairs, Contains, IsPermutation, refl, sym, ap, ◌∙◌, arith, inl, inr, eqb-true, eq-eqb, ne_eqb}
use Rattle.std.proofs.lemmas.Bool.{cases_eq, cases_lt, cases_order, agree_below_at, false≢true}
use Rattle.std.proofs.lemmas.List.{get_or_default, get_or_append_left, get_or-drop, drop-set-add}
use Rattle.std.proofs.lemmas.List.Edits.{swapped_from_swap, length-swap, swap_is}
use Rattle.std.proofs.lemmas.List.Sorted.{IsPermutation-keeps, IsPermutation-swap, length_permutation}
use Rattle.std.proofs.lemmas.List.Sums.{position_or_len_is, passes_at_first, fails_before_first}
use Rattle.framehop_registers.specs.PopLists.{callee_saved, place_in_list, left_behind}
use Rattle.framehop_registers.specs.Registers.{dwarf_number}
use Rattle.framehop_registers.specs.declared.x86_64.unwindregs.Reg.{Reg}
use Rattle.framehop_registers.specs.declared.x86_64.unwindregs.Reg.TheVariants.{RAX, RDX, RCX, RBX, RSI, RDI, RBP, RSP, R8, R9, R10, R11, R12, R13, R14, R15}

-- ---- registers by their numbers

numbered : List Reg
numbered = RAX ∷ RDX ∷ RCX ∷ RBX ∷ RSI ∷ RDI ∷ RBP ∷ RSP ∷ R8 ∷ R9 ∷ R10 ∷ R11 ∷ R12 ∷ R13 ∷ R14 ∷ R15 ∷ []

at_its_number : (register : Reg) → slice_index_or numbered (dwarf_number register) RAX ≡ register
unfolding numbered
at_its_number RAX = refl
at_its_number RDX = refl
at_its_number RCX = refl
at_its_number RBX = refl
at_its_number RSI = refl
at_its_number RDI = refl
at_its_number RBP = refl
at_its_number RSP = refl
at_its_number R8 = refl
at_its_number R9 = refl
at_its_number R10 = refl
at_its_number R11 = refl
at_its_number R12 = refl
at_its_number R13 = refl
at_its_number R14 = refl
at_its_number R15 = refl

pub same_register : (a b : Reg) → dwarf_number a ≡ dwarf_number b → a ≡ b
same_register a b e = sym (at_its_number a) ∙ ap (λ n. slice_index_or numbered n RAX) e ∙ at_its_number b

pub tests_same : (a b : Reg) → (dwarf_number a == dwarf_number b) ≡ true → a ≡ b
tests_same a b h = same_register a b (eqb-true (dwarf_number a) (dwarf_number b) h)

pub tests_other : (a b : Reg) → a ≢ b → (dwarf_number a == dwarf_number b) ≡ false
tests_other a b other = ne_eqb (dwarf_number a) (dwarf_number b) (λ e. other (same_register a b e))

-- ---- distinct lists, as those whose places can be told apart by what stands there

abbrev pub IsDistinct : List Reg → Type 0
IsDistinct xs = (i j : ℕ) (d : Reg) → i < length xs → j < length xs → slice_index_or xs i d ≡ slice_index_or xs j d → i ≡ j

pub distinct_from_pairs : (xs : List Reg) → AllPairs (λ a b. a ≢ b) xs → IsDistinct xs
distinct_from_pairs xs pairs i j d i_in j_in e = elim (cases_order i j) [
  | inl same ↦ same
  | inr (inl below) ↦ absurd (pairs i j d below j_in e)
  | inr (inr above) ↦ absurd (pairs j i d above i_in (sym e))
]

pub pairs_from_distinct : (xs : List Reg) → IsDistinct xs → AllPairs (λ a b. a ≢ b) xs
pairs_from_distinct xs distinct i j d below j_in e =
    let same : i ≡ j = distinct i j d (omega arith) j_in e in absurd (omega arith)

-- the place from which a place of a swapped list has its register
abbrev Source : ℕ → ℕ → ℕ → ℕ → Type 0
Source a b m n = ((m ≡ a) × (n ≡ b)) ⊎ (((m ≡ b) × (n ≡ a)) ⊎ ((m ≢ a) × (m ≢ b) × (n ≡ m)))

swapped_from : (xs : List Reg) (g : ℕ → Reg) (a b : ℕ) (d : Reg) → a < length xs → b < length xs
    → g a ≡ slice_index_or xs b d → g b ≡ slice_index_or xs a d
    → ((m : ℕ) → (m ≡ a → ⊥) → (m ≡ b → ⊥) → g m ≡ slice_index_or xs m d)
    → (m : ℕ) → m < length xs → (n : ℕ) × (n < length xs) × (g m ≡ slice_index_or xs n d) × Source a b m n
swapped_from xs g a b d a_in b_in at_a at_b others m m_in = elim (cases_eq m a) [
  | inl is_a ↦ (b, b_in, ap g is_a ∙ at_a, inl (is_a, refl))
  | inr not_a ↦ elim (cases_eq m b) [
    | inl is_b ↦ (a, a_in, ap g is_b ∙ at_b, inr (inl (is_b, refl)))
    | inr not_b ↦ (m, m_in, others m not_a not_b, inr (inr (not_a, not_b, refl)))
  ]
]

-- of two places of a swapped list with one register, by which of the two that were swapped they are
distinct-swapped : (xs : List Reg) (g : ℕ → Reg) (a b : ℕ) (d : Reg) → a < length xs → b < length xs → IsDistinct xs
    → g a ≡ slice_index_or xs b d → g b ≡ slice_index_or xs a d
    → ((m : ℕ) → (m ≡ a → ⊥) → (m ≡ b → ⊥) → g m ≡ slice_index_or xs m d)
    → (i j : ℕ) → i < length xs → j < length xs → g i ≡ g j → i ≡ j
distinct-swapped xs g a b d a_in b_in distinct at_a at_b others i j i_in j_in e =
    let (from, from_in, from_is, from_kind) = swapped_from xs g a b d a_in b_in at_a at_b others i i_in in
    let (to, to_in, to_is, to_kind) = swapped_from xs g a b d a_in b_in at_a at_b others j j_in in
    let same : from ≡ to = distinct from to d from_in to_in (sym from_is ∙ e ∙ to_is) in
    grind arith

pub distinct-swap : (xs : List Reg) (a b : ℕ) → a < length xs → b < length xs → IsDistinct xs → IsDistinct (swap xs a b)
distinct-swap xs a b a_in b_in distinct i j d i_in j_in e =
    let (at_a, at_b, others) = swapped_from_swap xs (swap xs a b) a b d a_in b_in refl in
    let size = length-swap xs a b in
    distinct-swapped xs (λ k. slice_index_or (swap xs a b) k d) a b d a_in b_in distinct at_a at_b others i j (omega arith) (omega arith) e

pub distinct-permutation : (xs ys : List Reg) → IsPermutation xs ys → IsDistinct xs → IsDistinct ys
distinct-permutation xs ys moved distinct =
    IsPermutation-keeps xs IsDistinct distinct (λ l i j i_in j_in h. distinct-swap l i j i_in j_in h) ys moved

pub distinct-drop : (n : ℕ) (xs : List Reg) → IsDistinct xs → IsDistinct (drop n xs)
distinct-drop n xs distinct i j d i_in j_in e =
    let size = length-drop n xs in
    let same : n + i ≡ n + j = distinct (n + i) (n + j) d (omega arith) (omega arith) (sym (get_or-drop n xs i d) ∙ e ∙ get_or-drop n xs j d) in
    omega arith

pub distinct-front : (xs ys : List Reg) → IsDistinct (xs ++ ys) → IsDistinct xs
distinct-front xs ys distinct i j d i_in j_in e =
    let size = length-append xs ys in
    distinct i j d (omega arith) (omega arith) (get_or_append_left xs ys d i i_in ∙ e ∙ sym (get_or_append_left xs ys d j j_in))

own_place : (i : ℕ) → i < 8 → place_in_list (slice_index_or callee_saved i RAX) callee_saved ≡ i
own_place i inside =
    eqb-true (place_in_list (slice_index_or callee_saved i RAX) callee_saved) i
    (agree_below_at (λ k. place_in_list (slice_index_or callee_saved k RAX) callee_saved == k) (λ _. true) 8 i refl inside)

pub callee_saved_distinct : IsDistinct callee_saved
callee_saved_distinct i j d i_in j_in e =
    sym (own_place i i_in)
    ∙ ap (λ r. place_in_list r callee_saved) (get_or_default callee_saved i RAX d i_in ∙ e ∙ get_or_default callee_saved j d RAX j_in)
    ∙ own_place j j_in

-- ---- what is left behind

-- the one at a place, and behind it what is left, are the same registers in another order
pub taken_out : (left : List Reg) (place : ℕ) (d : Reg) → place < length left
    → swap left 0 place ≡ slice_index_or left place d ∷ left_behind left place
taken_out [] place d inside = absurd (omega arith)
taken_out (x ∷ xs) zero d inside = refl
taken_out (x ∷ xs) (suc place) d inside = ap (λ r. r ∷ set xs place x) (get_or_default xs place x d (le_of_suc-le-suc inside))

pub permutation-taken_out : (left : List Reg) (place : ℕ) (d : Reg) → place < length left
    → IsPermutation left (slice_index_or left place d ∷ left_behind left place)
permutation-taken_out left place d inside =
    IsPermutation-swap left _ 0 place (omega arith) inside (sym (taken_out left place d inside))

pub length-left_behind : (left : List Reg) (place : ℕ) → place < length left → length (left_behind left place) + 1 ≡ length left
length-left_behind left place inside =
    let same = length_permutation left (slice_index_or left place RAX ∷ left_behind left place) (permutation-taken_out left place RAX inside) in
    omega arith

-- ---- places

pub at_place_of : (register : Reg) (left : List Reg) (d : Reg) → place_in_list register left < length left
    → slice_index_or left (place_in_list register left) d ≡ register
at_place_of register left d inside =
    tests_same _ _ (passes_at_first (λ other. dwarf_number other == dwarf_number register) left d inside)

pub place_in_list-distinct : (left : List Reg) (place : ℕ) (d : Reg) → IsDistinct left → place < length left
    → place_in_list (slice_index_or left place d) left ≡ place
place_in_list-distinct left place d distinct inside =
    let register = slice_index_or left place d in
    position_or_len_is (λ other. dwarf_number other == dwarf_number register) left place d (omega arith)
    (λ k below. tests_other _ _ (λ e. let same : k ≡ place = distinct k place d (omega arith) inside e in absurd (omega arith)))
    (λ _. eq-eqb (dwarf_number register) (dwarf_number register) refl)

-- a register of the list has a place in it
pub contained_has_place : (register : Reg) (left : List Reg) → Contains left register → place_in_list register left < length left
contained_has_place register left (k, inside, is) =
    let fails = fails_before_first (λ other. dwarf_number other == dwarf_number register) left k register in
    let passes : (dwarf_number (slice_index_or left k register) == dwarf_number register) ≡ true = eq-eqb _ _ (ap dwarf_number is) in
    elim (cases_lt k (place_in_list register left)) [
      | inl before ↦ absurd (false≢true (sym (fails before) ∙ passes))
      | inr within ↦ omega arith
    ]

-- a register without a place isn't in the list
pub place_is_contained : (register : Reg) (left : List Reg) → place_in_list register left < length left → Contains left register
place_is_contained register left inside = (place_in_list register left, inside, at_place_of register left register inside)

-- ---- an array of registers, of which those from a place on are left

pub drop-swap : (xs : List Reg) (k place : ℕ) → place < length (drop k xs) → drop (k + 1) (swap xs k (k + place)) ≡ left_behind (drop k xs) place
drop-swap xs k place inside =
    let within = length-drop k xs in
    let first = slice_index_or xs k RAX in
    let other = slice_index_or xs (k + place) RAX in
    let behind = drop-drop 1 k (swap xs k (k + place)) in
    let swapped = swap_is xs k (k + place) RAX (omega arith) (omega arith) in
    let cut = drop-set-add k (set xs k other) place first in
    let cut_first : drop k (set xs k other) ≡ set (drop k xs) 0 other = rw add-zero at (drop-set-add k xs 0 other) in
    let swapped_left = swap_is (drop k xs) 0 place RAX (omega arith) inside in
    let other_left = get_or-drop k xs place RAX in
    let first_left : slice_index_or (drop k xs) 0 RAX ≡ first = rw add-zero at (get_or-drop k xs 0 RAX) in
    cc
