use Rattle.std.proofs.Common.{◌≡◌, ◌+◌, ◌-◌, ◌++◌, length}
use Rattle.framehop_registers.specs.PopLists.{pop_list, registers_with}
use Rattle.framehop_registers.specs.PopListViews.{popped_of, left_of}
use Rattle.framehop_registers.proofs.x86_64.register_ordering.decode.Given as goal

abbrev pub invariant-loop : goal.invariant-loop
invariant-loop l = record {
  left : length (left_of l.list) + l.counter ≡ 8;
  popped : popped_of l.list ++ registers_with (l.register_count - l.counter) (left_of l.list) l.number ≡ pop_list l.register_count l.encoded_ordering;
}
