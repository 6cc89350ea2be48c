use Rattle.std.proofs.Common.{◌≡◌, ◌==◌, ◌++◌, [], ◌∷◌, List, Option, SomeIff, IsPermutation, ℕ, ◌+◌, ◌*◌, ◌<◌, ◌≤◌, length, take, drop, slice_index_or, Some, None, position, ap, sym, ◌∙◌, arith, rules, subst}
use Rattle.std.proofs.lemmas.List.{take_all, drop_all, take_more}
use Rattle.framehop_registers.specs.PopLists.{callee_saved, place_in_list, left_behind, number_among, order_number, pop_list, IsPopList}
use Rattle.framehop_registers.specs.Registers.{dwarf_number}
use Rattle.framehop_registers.specs.declared.x86_64.unwindregs.Reg.{Reg}
use Rattle.framehop_registers.specs.declared.x86_64.unwindregs.Reg.TheVariants.{RBX}
use Rattle.framehop_registers.specs.PopListViews.{popped_of, left_of}
use Rattle.framehop_registers.proofs.Orders.{length-left_behind, at_place_of}
use Rattle.framehop_registers.proofs.OrderNumbers.{orders, place_found, place_missing, permutation-push, front_pops, no_list, counted_more, weighed_more, below_more, pop_list-fits, pop_list-order_number}
use Rattle.framehop_registers.proofs.x86_64.register_ordering.encode.Goals as goal

-- no place: the register was popped before, or isn't callee-saved
missing : (registers popped left : List Reg) (k : ℕ) {register : Reg} (found : Option ℕ) (result : Option (ℕ × ℕ))
    → popped ≡ take k registers → IsPermutation callee_saved (popped ++ left) → k < length registers
    → found ≡ position (λ other. dwarf_number other == dwarf_number register) left → found ≡ None
    → register ≡ slice_index_or registers k register → result ≡ None
    → SomeIff result (IsPopList registers) (length registers, order_number registers)
missing registers popped left k {register} found result front moved inside place none is gives =
    rw gives (no_list registers popped left k register front moved inside is (place_missing left register (sym place ∙ none)))

pub returns-in_err-place-clause-number : goal.returns-in_err-place-clause-number
returns-in_err-place-clause-number c =
    let l = c.loop-register in
    missing c.args.registers.now (popped_of l.list) (left_of l.list) l.register-index c.place_of.result c.from_residual.result
    l.invariant.popped l.invariant.all (omega arith) c.place_of.ensures c.in_err-place.was (search rules) c.from_residual.ensures

-- what the next place is worth, and that the numbers fit
room : (left : List Reg) (place : ℕ) (found : Option ℕ) (weight number choices : ℕ) (register : Reg) → choices ≡ length left
    → found ≡ position (λ other. dwarf_number other == dwarf_number register) left → found ≡ Some place
    → weight * orders (length left) ≡ 40320 → number < weight
    → (place < choices) × (number + weight * place < weight * choices) × (weight * choices ≤ 40320)
room left place found weight number choices register same looked is weighed below =
    let (inside, own) = place_found left register place (sym looked ∙ is) in
    let shorter = length-left_behind left place inside in
    let heavy = weighed_more weight (length left) (length (left_behind left place)) weighed shorter in
    let within : place < choices = omega arith in
    let product = ap (λ n. weight * n) same in
    (within, below_more number weight place choices below within, omega arith)

pub overflow_mul-number : goal.overflow_mul-number
overflow_mul-number c =
    let l = c.loop-register in
    let fits = room (left_of l.list) c.in_ok-place.place c.place_of.result l.weight l.number _ _ (ap length c.left.ensures) c.place_of.ensures c.in_ok-place.was l.invariant.weighed l.invariant.below in
    omega arith

pub overflow_add-number : goal.overflow_add-number
overflow_add-number c =
    let l = c.loop-register in
    let fits = room (left_of l.list) c.in_ok-place.place c.place_of.result l.weight l.number _ _ (ap length c.left.ensures) c.place_of.ensures c.in_ok-place.was l.invariant.weighed l.invariant.below in
    omega arith

pub overflow_mul-weight : goal.overflow_mul-weight
overflow_mul-weight c =
    let l = c.loop-register in
    let fits = room (left_of l.list) c.in_ok-place.place c.place_of.result l.weight l.number _ _ (ap length c.left.ensures) c.place_of.ensures c.in_ok-place.was l.invariant.weighed l.invariant.below in
    omega arith

-- the register at an index of the list stands at a place among those left
record Chosen (registers left : List Reg) (place k : ℕ) : Type 0 where
  register : Reg
  inside : k < length registers
  there : register ≡ slice_index_or registers k register
  place_is : place ≡ place_in_list register left
  stands : slice_index_or left place RBX ≡ register

chosen : (registers left : List Reg) (place k : ℕ) (found : Option ℕ) {register : Reg} → k < length registers
    → found ≡ position (λ other. dwarf_number other == dwarf_number register) left → found ≡ Some place
    → register ≡ slice_index_or registers k register → Chosen registers left place k
chosen registers left place k found {register} in_list looked is there =
    let (inside, own) = place_found left register place (sym looked ∙ is) in
    let within : place_in_list register left < length left = omega arith in
    record {
      register = register;
      inside = in_list;
      there = there;
      place_is = own;
      stands = ap (λ p. slice_index_or left p RBX) own ∙ at_place_of register left RBX within;
    }

pushed : (registers left : List Reg) (place k : ℕ) → Chosen registers left place k
    → take k registers ++ slice_index_or left place RBX ∷ [] ≡ take (k + 1) registers
pushed registers left place k next =
    ap (λ r. take k registers ++ r ∷ []) (next.stands ∙ next.there) ∙ sym (take_more registers k next.register next.inside)

pub loop-register-preserved : goal.loop-register-preserved
loop-register-preserved c =
    let l = c.loop-register in
    let left = left_of l.list in
    let place = c.in_ok-place.place in
    let choices : length c.left.result.now ≡ length left = ap length c.left.ensures in
    let (inside, below, fits) = room left place c.place_of.result l.weight l.number _ _ choices c.place_of.ensures c.in_ok-place.was l.invariant.weighed l.invariant.below in
    let within : place < length left = omega arith in
    let next = chosen c.args.registers.now left place l.register-index c.place_of.result (omega arith) c.place_of.ensures c.in_ok-place.was (search rules) in
    record {
      popped = rw (c.push_from.ensures.popped, l.invariant.popped) (pushed c.args.registers.now left place l.register-index next);
      all = rw (c.push_from.ensures.popped, c.push_from.ensures.left) (permutation-push callee_saved (popped_of l.list) left place RBX within l.invariant.all);
      weighed = rw (c.push_from.ensures.left, choices) (weighed_more l.weight (length left) _ l.invariant.weighed (length-left_behind left place within)).0;
      below = below;
      counted = rw (c.push_from.ensures.left, choices)
          (counted_more left c.args.registers.now l.number l.weight (order_number c.args.registers.now) l.register-index place next.register next.inside next.there next.place_is l.invariant.counted);
    }

-- at the end of the list
pops : (registers popped left : List Reg) (k : ℕ) → length registers ≤ k → popped ≡ take k registers
    → IsPermutation callee_saved (popped ++ left) → IsPopList registers
pops registers popped left k past front moved =
    let P : List Reg → Type 0 = λ xs. IsPopList xs in
    subst P (front ∙ take_all k registers past) (front_pops popped left moved)

counted : (registers left : List Reg) (number weight k : ℕ) → length registers ≤ k
    → number + weight * number_among left (drop k registers) ≡ order_number registers → number ≡ order_number registers
counted registers left number weight k past so_far =
    let none = ap (λ xs. number + weight * number_among left xs) (drop_all k registers past) in omega arith

pub returns-clause-number : goal.returns-clause-number
returns-clause-number c =
    let l = c.loop-register in
    let number = counted c.args.registers.now (left_of l.list) l.number l.weight l.register-index (omega arith) l.invariant.counted in (
      pops c.args.registers.now (popped_of l.list) (left_of l.list) l.register-index (omega arith) l.invariant.popped l.invariant.all,
      ap (λ n. (length c.args.registers.now, n)) number,
    )

pub returns-clause-fits : goal.returns-clause-fits
returns-clause-fits c =
    let l = c.loop-register in
    let number = counted c.args.registers.now (left_of l.list) l.number l.weight l.register-index (omega arith) l.invariant.counted in
    let (count_fits, number_fits) = pop_list-fits c.args.registers.now
    (pops c.args.registers.now (popped_of l.list) (left_of l.list) l.register-index (omega arith) l.invariant.popped l.invariant.all) in
    (count_fits, omega arith)

pub returns-clause-again : goal.returns-clause-again
returns-clause-again c =
    let l = c.loop-register in
    let number = counted c.args.registers.now (left_of l.list) l.number l.weight l.register-index (omega arith) l.invariant.counted in
    ap (pop_list (length c.args.registers.now)) number
    ∙ pop_list-order_number c.args.registers.now
    (pops c.args.registers.now (popped_of l.list) (left_of l.list) l.register-index (omega arith) l.invariant.popped l.invariant.all)
