-- What contracts see of a pop list in memory.
use Rattle.std.specs.Prelude.{List, take, drop}
use Rattle.framehop_registers.specs.declared.x86_64.pop_list.PopList.{PopList}
use Rattle.framehop_registers.specs.declared.x86_64.unwindregs.Reg.{Reg}

-- The registers that are popped.
abbrev pub popped_of : PopList → List Reg
popped_of list = take list.count list.registers

-- The callee-saved registers that are left, in the order that the next one's place counts in.
abbrev pub left_of : PopList → List Reg
left_of list = drop list.count list.registers
