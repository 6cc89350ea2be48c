-- The registers of architectures by their DWARF numbers (System V ABI for AMD64, figure 3.36; DWARF for the Arm 64-bit Architecture,
-- 4.1), and which of them a function leaves as they were (System V ABI for AMD64, 3.2.1; Procedure Call Standard for the Arm 64-bit
-- Architecture, 6.1.1).
use Rattle.std.specs.Prelude.{ℕ, Bool, ◌&&◌, ◌||◌, ◌==◌, nat_le}
use Rattle.framehop_expressions.specs.declared.architecture.Architecture.{Architecture}
use Rattle.framehop_expressions.specs.declared.architecture.Architecture.TheVariants.{X86_64, Aarch64}

-- the number above those of the registers: RAX to R15 and the return address; x0 to x30, SP, the program counter and the sign state
abbrev pub register_count : Architecture → ℕ
register_count X86_64 = 17
register_count Aarch64 = 35

-- RSP; SP
abbrev pub stack_pointer : Architecture → ℕ
stack_pointer X86_64 = 7
stack_pointer Aarch64 = 31

-- the return address, which is the caller's RIP; the program counter
abbrev pub instruction_pointer : Architecture → ℕ
instruction_pointer X86_64 = 16
instruction_pointer Aarch64 = 32

-- the state of the return address: its lowest bit is 1 if the address is signed; x86_64 has none
abbrev pub sign_state : ℕ
sign_state = 34

-- the number is one of those from first to last
abbrev pub is_from_to : (first last number : ℕ) → Bool
is_from_to first last number = nat_le first number && nat_le number last

-- RBX, RBP, R12 to R15; x19 to x29
abbrev pub is_saved_by_callees : Architecture → ℕ → Bool
is_saved_by_callees X86_64 number = number == 3 || (number == 6 || is_from_to 12 15 number)
is_saved_by_callees Aarch64 number = is_from_to 19 29 number
