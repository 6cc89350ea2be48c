use Rattle.std.proofs.Common.{◌≡◌, ℕ, ◌+◌, ◌-◌, ◌/◌, ◌%◌, ◌<◌, List, [], ◌∷◌, ◌++◌, length, slice_index_or, ap, sym, ◌∙◌, subst, append_assoc, append-nil, suc, arith}
use Rattle.std.proofs.lemmas.Nat.{mod_below}
use Rattle.framehop_registers.specs.PopLists.{left_behind, registers_with, BeginsOrder}
use Rattle.framehop_registers.specs.declared.x86_64.unwindregs.Reg.{Reg}
use Rattle.framehop_registers.specs.declared.x86_64.unwindregs.Reg.TheVariants.{RBX}
use Rattle.framehop_registers.specs.PopListViews.{popped_of, left_of}
use Rattle.framehop_registers.proofs.Orders.{length-left_behind}
use Rattle.framehop_registers.proofs.OrderNumbers.{pop_list-begins}
use Rattle.framehop_registers.proofs.x86_64.register_ordering.decode.Goals as goal

-- one register more
step : (popped left : List Reg) (count counter number choices : ℕ) (whole : List Reg) → counter < count → choices ≡ length left
    → popped ++ registers_with (count - counter) left number ≡ whole
    → (popped ++ slice_index_or left (number % choices) RBX ∷ []) ++ registers_with (count - (counter + 1)) (left_behind left (number % choices)) (number / choices) ≡ whole
unfolding registers_with
step popped left count counter number choices whole more is so_far =
    let one : count - counter ≡ suc (count - (counter + 1)) = omega arith in
    rw is (append_assoc popped _ _ ∙ ap (λ n. popped ++ registers_with n left number) (sym one) ∙ so_far)

pub loop-preserved : goal.loop-preserved
loop-preserved c =
    let left = left_of c.loop.list in
    let choices : length c.left.result.now ≡ length left = ap length c.left.ensures in
    let some : 0 < length left = omega arith in
    let inside = mod_below c.loop.number (length c.left.result.now) (omega arith) in
    let shorter = length-left_behind left (c.loop.number % length c.left.result.now) (omega arith) in
    record {
      left = rw (c.push_from.ensures.left, c.place_and_rest-place.ensures.place) (omega arith);
      popped = rw (c.push_from.ensures.popped, c.push_from.ensures.left, c.place_and_rest-place.ensures.place, c.place_and_rest-place.ensures.rest)
          (step (popped_of c.loop.list) left c.args.register_count c.loop.counter c.loop.number _ _ c.loop-test.true choices c.loop.invariant.popped);
    }

pub returns-clause-list : goal.returns-clause-list
unfolding registers_with
returns-clause-list c =
    let done : c.args.register_count - c.loop.counter ≡ 0 = omega arith in
    sym (append-nil (popped_of c.loop.list))
    ∙ ap (λ n. popped_of c.loop.list ++ registers_with n (left_of c.loop.list) c.loop.number) (sym done)
    ∙ c.loop.invariant.popped

pub returns-clause-order : goal.returns-clause-order
returns-clause-order c =
    let P : List Reg → Type 0 = λ l. BeginsOrder l c.args.register_count c.args.encoded_ordering in
    subst P (sym (returns-clause-list c)) (pop_list-begins c.args.register_count c.args.encoded_ordering c.requires.count c.requires.number)
