-- The registers of threads by their DWARF numbers.
use Rattle.std.specs.Prelude.{ℕ, List, [], ◌∷◌, Option, Some, set, slice_get}
use Rattle.core_files.specs.declared.registers.UserRegsAarch64.{UserRegsAarch64}
use Rattle.core_files.specs.declared.registers.UserRegsX86_64.{UserRegsX86_64}
use Rattle.framehop_whole_steps.specs.Registers.{values_of}

-- values by the numbers of their registers, from 0 on, and no other that is known
abbrev pub numbered : List ℕ → List (Option ℕ)
numbered values = values_of (slice_get values)

-- the general registers and the return address, which is RIP of a first frame (System V ABI, AMD64, figure 3.36)
abbrev pub numbered_x86_64 : UserRegsX86_64 → List (Option ℕ)
numbered_x86_64 user =
    numbered (user.rax ∷ user.rdx ∷ user.rcx ∷ user.rbx ∷ user.rsi ∷ user.rdi ∷ user.rbp ∷ user.rsp ∷ user.r8 ∷ user.r9 ∷ user.r10 ∷ user.r11
    ∷ user.r12 ∷ user.r13 ∷ user.r14 ∷ user.r15 ∷ user.rip ∷ [])

-- x0 to x30, SP and PC (DWARF for the Arm 64-bit Architecture, 4.1)
abbrev pub numbered_aarch64 : UserRegsAarch64 → List (Option ℕ)
numbered_aarch64 user = set (set (numbered user.regs) 31 (Some user.sp)) 32 (Some user.pc)
