-- The registers of a frame that are known.
use Rattle.std.specs.Prelude.{ℕ, List, Option, None, nat_lt, if◌then◌else◌, slice_index_or}
use Rattle.framehop_expressions.specs.Architectures.{register_count}
use Rattle.framehop_expressions.specs.declared.architecture.Architecture.{Architecture}
use Rattle.framehop_expressions.specs.declared.registers.KnownRegisters.{KnownRegisters}

-- the register with this number of some values, if the architecture has it and its value is there
abbrev pub register_in : Architecture → List (Option ℕ) → ℕ → Option ℕ
register_in architecture values number =
    if nat_lt number (register_count architecture) then slice_index_or values number None else None

-- the value of the register with this number, if it is known
abbrev pub known : KnownRegisters → ℕ → Option ℕ
known registers number = register_in registers.architecture registers.values number
