-- General registers by their numbers, and sets of them.
--
-- Intel SDM, volume 2, 2.1.5 (table 2-2), 2.2.1.2 (table 2-4 and REX).
use Rattle.std.specs.Prelude.{ℕ, ◌/◌, ◌%◌, ◌^◌, ◌==◌, Bool, List, [], ◌∷◌, slice_index_or, bit_or}
use Rattle.framehop_registers.specs.declared.x86_64.unwindregs.Reg.{Reg}
use Rattle.framehop_registers.specs.declared.x86_64.unwindregs.Reg.TheVariants.{RAX, RDX, RCX, RBX, RSI, RDI, RBP, RSP, R8, R9, R10, R11, R12, R13, R14, R15}
use Rattle.framehop_x86_instructions.specs.declared.registers.Registers.{Registers}

-- The registers in the order of their numbers.
abbrev pub registers_by_number : List Reg
registers_by_number = RAX ∷ RCX ∷ RDX ∷ RBX ∷ RSP ∷ RBP ∷ RSI ∷ RDI ∷ R8 ∷ R9 ∷ R10 ∷ R11 ∷ R12 ∷ R13 ∷ R14 ∷ R15 ∷ []

abbrev pub register_numbered : ℕ → Reg
register_numbered number = slice_index_or registers_by_number number RAX

abbrev pub number_of : Reg → ℕ
number_of RAX = 0
number_of RCX = 1
number_of RDX = 2
number_of RBX = 3
number_of RSP = 4
number_of RBP = 5
number_of RSI = 6
number_of RDI = 7
number_of R8 = 8
number_of R9 = 9
number_of R10 = 10
number_of R11 = 11
number_of R12 = 12
number_of R13 = 13
number_of R14 = 14
number_of R15 = 15

-- A set has a bit for each register.
abbrev pub none : Registers
none = record { bits = 0 }

abbrev pub one : ℕ → Registers
one number = record { bits = 2 ^ number }

abbrev pub both : Registers → Registers → Registers
both a b = record { bits = bit_or a.bits b.bits }

abbrev pub contains : Registers → Reg → Bool
contains set register = set.bits / 2 ^ number_of register % 2 == 1
