-- The registers of x86_64, as a step of a stack walk carries them: the instruction pointer and
-- sixteen general registers of 64 bits.
use Rattle.std.specs.Prelude.{ℕ, ◌≡◌, List, [], ◌∷◌, length, replicate, slice_index, slice_set}
use Rattle.framehop_registers.specs.declared.x86_64.unwindregs.Reg.{Reg}
use Rattle.framehop_registers.specs.declared.x86_64.unwindregs.Reg.TheVariants.{RAX, RDX, RCX, RBX, RSI, RDI, RBP, RSP, R8, R9, R10, R11, R12, R13, R14, R15}
use Rattle.framehop_registers.specs.declared.x86_64.unwindregs.UnwindRegsX86_64.{UnwindRegsX86_64}

-- The number of a register in the DWARF mapping of x86_64 (System V ABI, figure 3.36).
abbrev pub dwarf_number : Reg → ℕ
dwarf_number RAX = 0
dwarf_number RDX = 1
dwarf_number RCX = 2
dwarf_number RBX = 3
dwarf_number RSI = 4
dwarf_number RDI = 5
dwarf_number RBP = 6
dwarf_number RSP = 7
dwarf_number R8 = 8
dwarf_number R9 = 9
dwarf_number R10 = 10
dwarf_number R11 = 11
dwarf_number R12 = 12
dwarf_number R13 = 13
dwarf_number R14 = 14
dwarf_number R15 = 15

-- The instruction pointer.
abbrev pub ip_of : UnwindRegsX86_64 → ℕ
ip_of registers = registers.ip

-- The value of a general register.
abbrev pub register_of : UnwindRegsX86_64 → Reg → ℕ
register_of registers register = slice_index registers.regs (dwarf_number register)

-- The stack pointer, RSP.
abbrev pub sp_of : UnwindRegsX86_64 → ℕ
sp_of registers = register_of registers RSP

-- The frame pointer, RBP.
abbrev pub bp_of : UnwindRegsX86_64 → ℕ
bp_of registers = register_of registers RBP

-- The registers with another instruction pointer.
abbrev pub with_ip : UnwindRegsX86_64 → ℕ → UnwindRegsX86_64
with_ip registers ip = record registers { ip = ip }

-- The registers with another value of one general register.
abbrev pub with_register : UnwindRegsX86_64 → Reg → ℕ → UnwindRegsX86_64
with_register registers register value = record registers { regs = slice_set registers.regs (dwarf_number register) value }

-- The registers once those of a list have these values, one after the other.
abbrev pub with_values : UnwindRegsX86_64 → List Reg → List ℕ → UnwindRegsX86_64
with_values registers [] values = registers
with_values registers (register ∷ more) [] = registers
with_values registers (register ∷ more) (value ∷ values) = with_values (with_register registers register value) more values

-- The registers with these values of the instruction pointer, RSP and RBP, and 0 in all others.
abbrev pub new_registers : ℕ → ℕ → ℕ → UnwindRegsX86_64
new_registers ip sp bp = with_register (with_register (record { ip = ip; regs = replicate 16 0 }) RSP sp) RBP bp

-- All sixteen general registers are there, as they are in every value of a program.
abbrev pub HasAllRegisters : UnwindRegsX86_64 → Type 0
HasAllRegisters registers = length registers.regs ≡ 16
