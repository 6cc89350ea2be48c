use Rattle.std.proofs.Common.{◌≡◌, ℕ, ◌+◌, ◌-◌, ◌/◌, ◌%◌, ◌<◌, ◌≤◌, List, length, length-drop, get_or, drop, slice_index_or, ap, sym, ◌∙◌, suc, arith}
use Rattle.std.proofs.lemmas.List.{drop_more}
use Rattle.framehop_registers.specs.PopLists.{left_behind, registers_with}
use Rattle.framehop_registers.specs.Registers.{with_register, with_values}
use Rattle.framehop_registers.specs.declared.x86_64.unwindregs.Reg.{Reg}
use Rattle.framehop_registers.specs.declared.x86_64.unwindregs.Reg.TheVariants.{RBX}
use Rattle.framehop_registers.specs.declared.x86_64.unwindregs.UnwindRegsX86_64.{UnwindRegsX86_64}
use Rattle.framehop_registers.proofs.x86_64.register_ordering.set_by_number.Goals as goal

-- one register more
step : (regs whole : UnwindRegsX86_64) (left : List Reg) (values : List ℕ) (taken number choices : ℕ) → taken < length values → choices ≡ length left
    → with_values regs (registers_with (length values - taken) left number) (drop taken values) ≡ whole
    → with_values (with_register regs (slice_index_or left (number % choices) RBX) (get_or values taken 0))
    (registers_with (length values - (taken + 1)) (left_behind left (number % choices)) (number / choices)) (drop (taken + 1) values) ≡ whole
unfolding registers_with
step regs whole left values taken number choices more is so_far =
    let one : length values - taken ≡ suc (length values - (taken + 1)) = omega arith in
    let here = drop_more values taken 0 more in
    rw is (
    sym (ap (λ xs. with_values regs (registers_with (suc (length values - (taken + 1))) left number) xs) here)
    ∙ ap (λ n. with_values regs (registers_with n left number) (drop taken values)) (sym one)
    ∙ so_far)

pub loop-taken-preserved : goal.loop-taken-preserved
loop-taken-preserved c =
    let l = c.loop-taken in
    let taken = c.take_from-register.ensures in
    let size = length-drop l.taken l.registers in
    let choices : 8 - l.taken ≡ length (drop l.taken l.registers) = omega arith in
    record {
      all = c.type_inv.registers;
      within = omega arith;
      left = rw (c.set.ensures, taken.register, taken.left, c.place_and_rest-place.ensures.place, c.place_and_rest-place.ensures.rest)
          (step l.regs _ (drop l.taken l.registers) c.args.values.now l.taken l.number (8 - l.taken) (omega arith) choices l.invariant.left);
    }

-- behind the last value
done : (regs whole : UnwindRegsX86_64) (left : List Reg) (values : List ℕ) (taken number : ℕ) → length values ≤ taken
    → with_values regs (registers_with (length values - taken) left number) (drop taken values) ≡ whole → regs ≡ whole
unfolding registers_with
done regs whole left values taken number all so_far =
    let none : length values - taken ≡ 0 = omega arith in
    ap (λ n. with_values regs (registers_with n left number) (drop taken values)) (sym none) ∙ so_far

pub returns-then-taken-values : goal.returns-then-taken-values
returns-then-taken-values c =
    let l = c.loop-taken in
    done l.regs _ (drop l.taken l.registers) c.args.values.now l.taken l.number (omega arith) l.invariant.left

pub returns : goal.returns
returns c =
    let l = c.loop-taken in
    done l.regs _ (drop l.taken l.registers) c.args.values.now l.taken l.number (omega arith) l.invariant.left
