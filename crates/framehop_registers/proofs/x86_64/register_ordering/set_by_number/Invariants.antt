use Rattle.std.proofs.Common.{◌≡◌, ◌≤◌, ◌-◌, length, drop}
use Rattle.framehop_registers.specs.PopLists.{pop_list, registers_with}
use Rattle.framehop_registers.specs.Registers.{with_values}
use Rattle.framehop_registers.proofs.x86_64.register_ordering.set_by_number.Given as goal

abbrev pub invariant-loop-taken : goal.invariant-loop-taken
invariant-loop-taken l = record {
  all : length l.registers ≡ 8;
  within : l.taken ≤ length l.values;
  left : with_values l.regs (registers_with (length l.values - l.taken) (drop l.taken l.registers) l.number) (drop l.taken l.values)
      ≡ with_values l.fn.regs (pop_list (length l.values) l.encoded_ordering) l.values;
}
