-- The registers of a frame that are known.
use Rattle.std.specs.Prelude.{ℕ, Bool, Option, None, nat_lt, if◌then◌else◌}
use Rattle.std.specs.Option.{option_or}
use Rattle.framehop_expressions.specs.Architectures.{register_count}
use Rattle.framehop_whole_steps.specs.Carrying.{Carrying}
use Rattle.framehop_whole_steps.specs.Registers.{other_at}
use Rattle.framehop_whole_steps.specs.declared.registers.WholeRegs.{WholeRegs}

-- the value of a register in a first or a later frame: by those that rules carry, or else by the others
abbrev pub value_of : {Registers : Type 0} → Carrying Registers → Bool → WholeRegs Registers → ℕ → Option ℕ
value_of c first registers number = option_or (c.carried first registers.regs number) (other_at registers.others number)

-- .. if the architecture has it
abbrev pub known_of : {Registers : Type 0} → Carrying Registers → Bool → WholeRegs Registers → ℕ → Option ℕ
known_of c first registers number =
    if nat_lt number (register_count c.architecture) then value_of c first registers number else None
