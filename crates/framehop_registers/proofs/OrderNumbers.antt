-- Order numbers of lists of registers: lists and numbers give each other back, place by place.
use Rattle.std.proofs.Common.{◌≡◌, ℕ, zero, suc, ◌+◌, ◌*◌, ◌/◌, ◌%◌, ◌<◌, ◌≤◌, ◌⊎◌, List, [], ◌∷◌, ◌++◌, length, take, drop, slice_index_or, All, Contains, Some, None, nat_lt, ◌==◌, position, length-append, length-take, append_assoc, lt-ltb, get_or-take, IsPermutation, refl, sym, ap, ◌∙◌, subst, arith, inl, inr, add-one, le_of_suc-le-suc, mul-le-mul_left, mul_comm}
use Rattle.std.proofs.Math.Nat.{mod-add-div}
use Rattle.std.proofs.lemmas.Bool.{cond-true}
use Rattle.std.proofs.lemmas.List.{nil_from_length, get_or_append_left, drop_more}
use Rattle.std.proofs.lemmas.List.Elements.{All-head, All-tail, All-contains_itself, Contains-append_cases}
use Rattle.std.proofs.lemmas.List.Quantifiers.{position-Some}
use Rattle.std.proofs.lemmas.List.Sorted.{IsPermutation-refl, IsPermutation-cons, IsPermutation-trans, IsPermutation-append_right, All-permutation, Contains-permutation, length_permutation}
use Rattle.std.proofs.lemmas.List.Sums.{position_or_len_is}
use Rattle.std.proofs.lemmas.Nat.{div-mul-add, mod-mul-add, mod_below, div_below}
use Rattle.framehop_registers.specs.PopLists.{callee_saved, place_in_list, left_behind, number_among, order_number, registers_with, pop_list, IsPopList, IsOrder, BeginsOrder}
use Rattle.framehop_registers.specs.Registers.{dwarf_number}
use Rattle.framehop_registers.specs.declared.x86_64.unwindregs.Reg.{Reg}
use Rattle.framehop_registers.specs.declared.x86_64.unwindregs.Reg.TheVariants.{RBX}
use Rattle.framehop_registers.proofs.Orders.{IsDistinct, distinct-permutation, distinct-drop, distinct-front, distinct_from_pairs, pairs_from_distinct, callee_saved_distinct, permutation-taken_out, length-left_behind, at_place_of, place_in_list-distinct, contained_has_place}

-- how many orders so many registers have
abbrev pub orders : ℕ → ℕ
orders zero = 1
orders (suc n) = suc n * orders n

pub orders_some : (n : ℕ) → 0 < orders n
orders_some zero = omega arith
orders_some (suc n) = let some = mul-le-mul_left (suc n) (orders_some n) in omega arith

pub orders_more : (m n : ℕ) → m + 1 ≡ n → orders n ≡ n * orders m
orders_more m n e = let same : n ≡ suc m = sym e ∙ add-one m in rw same refl

-- a register of a longer list is the first, or one of the others
contains_cases : (first : Reg) (others : List Reg) (register : Reg) → Contains (first ∷ others) register
    → (first ≡ register) ⊎ Contains others register
contains_cases first others register (zero, inside, is) = inl is
contains_cases first others register (suc k, inside, is) = inr (k, le_of_suc-le-suc inside, is)

-- ---- a list of distinct registers out of those left

pub record IsOutOf (left registers : List Reg) : Type 0 where
  pub among : All (λ register. Contains left register) registers
  pub distinct : IsDistinct registers

pub pops_out_of : (registers : List Reg) → IsPopList registers → IsOutOf callee_saved registers
pops_out_of registers pops = record { among = pops.saved; distinct = distinct_from_pairs registers pops.distinct }

pub first_has_place : (left : List Reg) (register : Reg) (more : List Reg) → IsOutOf left (register ∷ more)
    → place_in_list register left < length left
first_has_place left register more out = contained_has_place register left (All-head (λ r. Contains left r) register more out.among)

-- the registers left, as the one at its place and those behind it
pub permutation-place_of : (left : List Reg) (register : Reg) → place_in_list register left < length left
    → IsPermutation left (register ∷ left_behind left (place_in_list register left))
permutation-place_of left register inside =
    let P : Reg → Type 0 = λ r. IsPermutation left (r ∷ left_behind left (place_in_list register left)) in
    subst P (at_place_of register left RBX inside) (permutation-taken_out left (place_in_list register left) RBX inside)

pub others_out_of : (left : List Reg) (register : Reg) (more : List Reg) → IsOutOf left (register ∷ more)
    → IsOutOf (left_behind left (place_in_list register left)) more
others_out_of left register more out =
    let inside = first_has_place left register more out in
    record {
      among = λ k d k_in.
          let there = Contains-permutation left _ (slice_index_or more k d) (permutation-place_of left register inside) (All-tail (λ r. Contains left r) register more out.among k d k_in) in
          elim (contains_cases register _ _ there) [
            | inl same ↦ (let never : 0 ≡ suc k = out.distinct 0 (suc k) d (omega arith) (omega arith) same in absurd (omega arith))
            | inr other ↦ other
          ];
      distinct = distinct-drop 1 (register ∷ more) out.distinct;
    }

-- the number of a list is below that of all orders
pub number_among-below : (left registers : List Reg) → IsOutOf left registers → number_among left registers < orders (length left)
number_among-below left [] out = orders_some (length left)
number_among-below left (register ∷ more) out =
    let place = place_in_list register left in
    let inside = first_has_place left register more out in
    let rest = number_among (left_behind left place) more in
    let below : rest < orders (length (left_behind left place)) = number_among-below (left_behind left place) more (others_out_of left register more out) in
    let all = orders_more _ _ (length-left_behind left place inside) in
    let more_room = mul-le-mul_left (length left) below in
    omega arith

-- it has no more registers than were left
pub length-out_of : (left registers : List Reg) → IsOutOf left registers → length registers ≤ length left
length-out_of left [] out = omega arith
length-out_of left (register ∷ more) out =
    let place = place_in_list register left in
    let shorter = length-left_behind left place (first_has_place left register more out) in
    let others = length-out_of (left_behind left place) more (others_out_of left register more out) in
    omega arith

-- a list has the registers of its number
pub registers_with-number_among : (left registers : List Reg) → IsOutOf left registers
    → registers_with (length registers) left (number_among left registers) ≡ registers
unfolding registers_with
registers_with-number_among left [] out = refl
registers_with-number_among left (register ∷ more) out =
    let place = place_in_list register left in
    let n = length left in
    let rest = number_among (left_behind left place) more in
    let inside : place < n = first_has_place left register more out in
    let turned : place + n * rest ≡ rest * n + place = omega arith in
    let low : (place + n * rest) % n ≡ place = ap (λ x. x % n) turned ∙ mod-mul-add rest n place inside in
    let high : (place + n * rest) / n ≡ rest = ap (λ x. x / n) turned ∙ div-mul-add rest n place inside in
    let first : slice_index_or left place RBX ≡ register = at_place_of register left RBX inside in
    let others : registers_with (length more) (left_behind left place) rest ≡ more = registers_with-number_among (left_behind left place) more (others_out_of left register more out) in
    cc

-- ---- the registers of a number

-- as many as are left are all of them, in some order
pub registers_with-permutation : (n : ℕ) (left : List Reg) (number : ℕ) → length left ≡ n → IsPermutation left (registers_with n left number)
unfolding registers_with
registers_with-permutation zero left number size =
    let P : List Reg → Type 0 = λ xs. IsPermutation left xs in
    subst P (nil_from_length left size) (IsPermutation-refl left)
registers_with-permutation (suc n) left number size =
    let place = number % length left in
    let inside : place < length left = mod_below number (length left) (omega arith) in
    let shorter = length-left_behind left place inside in
    IsPermutation-trans left (slice_index_or left place RBX ∷ left_behind left place) _
    (permutation-taken_out left place RBX inside)
    (IsPermutation-cons _ _ _ (registers_with-permutation n (left_behind left place) (number / length left) (omega arith)))

-- they have that number
pub number_among-registers_with : (n : ℕ) (left : List Reg) (number : ℕ) → length left ≡ n → IsDistinct left → number < orders n
    → number_among left (registers_with n left number) ≡ number
unfolding registers_with
number_among-registers_with zero left number size distinct below = omega arith
number_among-registers_with (suc n) left number size distinct below =
    let all = length left in
    let place = number % all in
    let inside : place < all = mod_below number all (omega arith) in
    let register = slice_index_or left place RBX in
    let shorter = length-left_behind left place inside in
    let rest_distinct : IsDistinct (left_behind left place) =
    distinct-drop 1 (register ∷ left_behind left place) (distinct-permutation left _ (permutation-taken_out left place RBX inside) distinct) in
    let product : orders n * all ≡ orders (suc n) = ap (λ k. orders n * k) size ∙ mul_comm (orders n) (suc n) in
    let rest_below : number / all < orders n = div_below number all (orders n) (omega arith) (omega arith) in
    let rest = number_among-registers_with n (left_behind left place) (number / all) (omega arith) rest_distinct rest_below in
    let own : place_in_list register left ≡ place = place_in_list-distinct left place RBX distinct inside in
    let whole = mod-add-div number all in
    cc

-- fewer are the first of them
pub registers_with-take : (count n : ℕ) (left : List Reg) (number : ℕ) → count ≤ n
    → registers_with count left number ≡ take count (registers_with n left number)
unfolding registers_with
registers_with-take zero n left number within = refl
registers_with-take (suc count) zero left number within = absurd (omega arith)
registers_with-take (suc count) (suc n) left number within =
    ap (λ more. slice_index_or left (number % length left) RBX ∷ more)
    (registers_with-take count n (left_behind left (number % length left)) (number / length left) (le_of_suc-le-suc within))

-- ---- pop lists

pub order-pop_list : (number : ℕ) → number < 40320 → IsOrder (pop_list 8 number)
order-pop_list number below =
    let moved = registers_with-permutation 8 callee_saved number refl in
    record {
      pops = record {
        saved = All-permutation (λ r. Contains callee_saved r) callee_saved _ moved (All-contains_itself callee_saved);
        distinct = pairs_from_distinct _ (distinct-permutation callee_saved _ moved callee_saved_distinct);
      };
      all = length_permutation callee_saved _ moved;
    }

pub order_number-pop_list : (number : ℕ) → number < 40320 → order_number (pop_list 8 number) ≡ number
order_number-pop_list number below = number_among-registers_with 8 callee_saved number refl callee_saved_distinct below

pub pop_list-order_number : (registers : List Reg) → IsPopList registers → pop_list (length registers) (order_number registers) ≡ registers
pop_list-order_number registers pops = registers_with-number_among callee_saved registers (pops_out_of registers pops)

pub pop_list-fits : (registers : List Reg) → IsPopList registers → (length registers ≤ 8) × (order_number registers < 40320)
pop_list-fits registers pops =
    let out = pops_out_of registers pops in
    (length-out_of callee_saved registers out, number_among-below callee_saved registers out)

-- two orders of all eight have two numbers
pub same_order : (a b : List Reg) → IsOrder a → IsOrder b → order_number a ≡ order_number b → a ≡ b
same_order a b first second same =
    sym (pop_list-order_number a first.pops)
    ∙ ap (λ n. pop_list n (order_number a)) (first.all ∙ sym second.all)
    ∙ ap (pop_list (length b)) same
    ∙ pop_list-order_number b second.pops

pub pop_list-begins : (count number : ℕ) → count ≤ 8 → number < 40320 → BeginsOrder (pop_list count number) count number
pop_list-begins count number within below = record {
  order = pop_list 8 number;
  is_order = order-pop_list number below;
  has_number = order_number-pop_list number below;
  begins = registers_with-take count 8 callee_saved number within;
}

-- ---- a list that is made register by register

-- the place of a register among those left, as a search finds it
pub place_found : (left : List Reg) (register : Reg) (place : ℕ)
    → position (λ other. dwarf_number other == dwarf_number register) left ≡ Some place → (place < length left) × (place ≡ place_in_list register left)
place_found left register place found =
    let (inside, here, before) = position-Some (λ other. dwarf_number other == dwarf_number register) left place RBX found in
    (inside, sym (position_or_len_is (λ other. dwarf_number other == dwarf_number register) left place RBX (omega arith) before (λ _. here)))

pub place_missing : (left : List Reg) (register : Reg)
    → position (λ other. dwarf_number other == dwarf_number register) left ≡ None → Contains left register → ⊥
place_missing left register missing there =
    let found = cond-true (nat_lt (place_in_list register left) (length left)) (Some (place_in_list register left)) None
    (lt-ltb (place_in_list register left) (length left) (contained_has_place register left there)) in
    let never : None ≡ Some (place_in_list register left) = sym missing ∙ found in cc

-- one register more
pub permutation-push : (all popped left : List Reg) (place : ℕ) (d : Reg) → place < length left → IsPermutation all (popped ++ left)
    → IsPermutation all ((popped ++ slice_index_or left place d ∷ []) ++ left_behind left place)
permutation-push all popped left place d inside moved =
    let P : List Reg → Type 0 = λ xs. IsPermutation all xs in
    subst P (sym (append_assoc popped (slice_index_or left place d ∷ []) (left_behind left place)))
    (IsPermutation-trans all _ _ moved (IsPermutation-append_right popped _ _ (permutation-taken_out left place d inside)))

-- the registers that were popped make a list
pub front_pops : (popped left : List Reg) → IsPermutation callee_saved (popped ++ left) → IsPopList popped
front_pops popped left moved = record {
  saved = λ k d k_in.
      let size = length-append popped left in
      let P : Reg → Type 0 = λ r. Contains callee_saved r in
      subst P (get_or_append_left popped left d k k_in)
      (All-permutation P callee_saved _ moved (All-contains_itself callee_saved) k d (omega arith));
  distinct = pairs_from_distinct popped (distinct-front popped left (distinct-permutation callee_saved _ moved callee_saved_distinct));
}

-- a register that isn't left was popped before, or isn't callee-saved
pub no_list : (registers popped left : List Reg) (k : ℕ) (register : Reg) → popped ≡ take k registers
    → IsPermutation callee_saved (popped ++ left) → k < length registers → register ≡ slice_index_or registers k register
    → (Contains left register → ⊥) → IsPopList registers → ⊥
no_list registers popped left k register front moved inside is missing pops =
    let P : Reg → Type 0 = λ r. Contains callee_saved r in
    let saved : Contains callee_saved register = subst P (sym is) (pops.saved k register inside) in
    elim (Contains-append_cases popped left register (Contains-permutation callee_saved _ register moved saved)) [
      | inl (i, i_in, i_is) ↦
          let size = ap length front ∙ length-take k registers in
          let there : slice_index_or registers i register ≡ register =
          sym (get_or-take k registers i register (omega arith)) ∙ ap (λ xs. slice_index_or xs i register) (sym front) ∙ i_is in
          pops.distinct i k register (omega arith) inside (there ∙ is)
      | inr there ↦ missing there
    ]

-- the number so far, with one place more
pub counted_more : (left registers : List Reg) (number weight total k place : ℕ) (register : Reg) → k < length registers
    → register ≡ slice_index_or registers k register → place ≡ place_in_list register left
    → number + weight * number_among left (drop k registers) ≡ total
    → number + weight * place + weight * length left * number_among (left_behind left place) (drop (k + 1) registers) ≡ total
counted_more left registers number weight total k place register inside is place_is so_far =
    let rest = number_among (left_behind left place) (drop (k + 1) registers) in
    let here : drop k registers ≡ register ∷ drop (k + 1) registers =
    drop_more registers k register inside ∙ ap (λ r. r ∷ drop (k + 1) registers) (sym is) in
    let parts : number_among left (drop k registers) ≡ place + length left * rest =
    ap (number_among left) here ∙ ap (λ p. p + length left * number_among (left_behind left p) (drop (k + 1) registers)) (sym place_is) in
    let product = ap (λ x. number + weight * x) parts in
    omega arith

-- the weight of the next place
pub weighed_more : (weight n m : ℕ) → weight * orders n ≡ 40320 → m + 1 ≡ n → (weight * n * orders m ≡ 40320) × (weight * n ≤ 40320)
weighed_more weight n m weighed one =
    let product = ap (λ x. weight * x) (orders_more m n one) in
    let whole : weight * n * orders m ≡ 40320 = omega arith in
    let some = mul-le-mul_left (weight * n) (orders_some m) in
    (whole, omega arith)

pub below_more : (number weight place n : ℕ) → number < weight → place < n → number + weight * place < weight * n
below_more number weight place n below inside =
    let room = mul-le-mul_left weight inside in omega arith
