use Rattle.std.proofs.Common.{◌≡◌, ◌+◌, ◌*◌, ◌<◌, ◌++◌, length, take, drop, IsPermutation}
use Rattle.framehop_registers.specs.PopLists.{callee_saved, number_among, order_number}
use Rattle.framehop_registers.specs.PopListViews.{popped_of, left_of}
use Rattle.framehop_registers.proofs.OrderNumbers.{orders}
use Rattle.framehop_registers.proofs.x86_64.register_ordering.encode.Given as goal

abbrev pub invariant-loop-register : goal.invariant-loop-register
invariant-loop-register l = record {
  popped : popped_of l.list ≡ take l.register-index l.registers;
  all : IsPermutation callee_saved (popped_of l.list ++ left_of l.list);
  weighed : l.weight * orders (length (left_of l.list)) ≡ 40320;
  below : l.number < l.weight;
  counted : l.number + l.weight * number_among (left_of l.list) (drop l.register-index l.registers) ≡ order_number l.registers;
}
