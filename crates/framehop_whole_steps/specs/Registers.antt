-- The registers of a frame, with those that are known beside the ones that rules carry.
use Rattle.std.specs.Prelude.{ℕ, List, map, Option, None, option_and_then, slice_index_or}
use Rattle.std.specs.List.{range_with_len}
use Rattle.framehop_whole_steps.specs.declared.registers.WholeRegs.{WholeRegs}

-- how many DWARF numbers there are, of any architecture
abbrev pub registers : ℕ
registers = 35

-- the value of a register by its number, if there are some and it is known
abbrev pub other_at : Option (List (Option ℕ)) → ℕ → Option ℕ
other_at others number = option_and_then (λ values. slice_index_or values number None) others

-- values by their numbers
abbrev pub values_of : (ℕ → Option ℕ) → List (Option ℕ)
values_of known = map known (range_with_len 0 registers)

-- the registers that rules carry, and no other that is known
abbrev pub forgotten : {Registers : Type 0} → Registers → WholeRegs Registers
forgotten regs = record { regs = regs; others = None }
