-- The registers of threads: where a walk begins, and which registers of a frame are shown.
use Rattle.std.specs.Prelude.{ℕ, ◌-◌, ◌^◌, List, [], ◌∷◌, codes, slice_index, Option, Some, None}
use Rattle.backtrace_text.specs.Frames.{Register}
use Rattle.core_files.specs.declared.pac_mask.PointerAuthenticationMasks.{PointerAuthenticationMasks}
use Rattle.core_files.specs.declared.registers.ThreadRegisters.{ThreadRegisters}
use Rattle.core_files.specs.declared.registers.ThreadRegisters.TheVariants.{X86_64, Aarch64}
use Rattle.core_files.specs.declared.registers.UserRegsAarch64.{UserRegsAarch64}
use Rattle.core_files.specs.declared.registers.UserRegsX86_64.{UserRegsX86_64}
use Rattle.framehop_registers.specs.Registers.{bp_of, ip_of, new_registers, sp_of, with_values}
use Rattle.framehop_registers.specs.RegistersAarch64 as aarch64
use Rattle.framehop_registers.specs.declared.aarch64.unwindregs.PtrAuthMask.{PtrAuthMask}
use Rattle.framehop_registers.specs.declared.aarch64.unwindregs.UnwindRegsAarch64.{UnwindRegsAarch64}
use Rattle.framehop_registers.specs.declared.x86_64.unwindregs.Reg.TheVariants.{RAX, RDX, RCX, RBX, RSI, RDI, R8, R9, R10, R11, R12, R13, R14, R15}
use Rattle.framehop_registers.specs.declared.x86_64.unwindregs.UnwindRegsX86_64.{UnwindRegsX86_64}
use Rattle.framehop_whole_steps.specs.declared.registers.WholeRegs.{WholeRegs}
use Rattle.backtrace_walks.specs.Numbered.{numbered_aarch64, numbered_x86_64}
use Rattle.backtrace_walks.specs.declared.registers.ThreadStart.{ThreadStart}

-- a register with its name
abbrev pub shown_register : List ℕ → ℕ → Register
shown_register name value = record { name = name; value = value }

-- ---- x86_64

-- RIP and all general registers, of which rules carry some
abbrev pub registers_x86_64 : UserRegsX86_64 → UnwindRegsX86_64
registers_x86_64 user =
    with_values (new_registers user.rip user.rsp user.rbp)
    (RAX ∷ RDX ∷ RCX ∷ RBX ∷ RSI ∷ RDI ∷ R8 ∷ R9 ∷ R10 ∷ R11 ∷ R12 ∷ R13 ∷ R14 ∷ R15 ∷ [])
    (user.rax ∷ user.rdx ∷ user.rcx ∷ user.rbx ∷ user.rsi ∷ user.rdi ∷ user.r8 ∷ user.r9 ∷ user.r10 ∷ user.r11 ∷ user.r12 ∷ user.r13
    ∷ user.r14 ∷ user.r15 ∷ [])

-- registers with RAX to RDI of a thread, and with R8 to R15: parts of `registers_x86_64`
abbrev pub with_lettered : UnwindRegsX86_64 → UserRegsX86_64 → UnwindRegsX86_64
with_lettered registers user =
    with_values registers (RAX ∷ RDX ∷ RCX ∷ RBX ∷ RSI ∷ RDI ∷ []) (user.rax ∷ user.rdx ∷ user.rcx ∷ user.rbx ∷ user.rsi ∷ user.rdi ∷ [])

abbrev pub with_numbered : UnwindRegsX86_64 → UserRegsX86_64 → UnwindRegsX86_64
with_numbered registers user =
    with_values registers (R8 ∷ R9 ∷ R10 ∷ R11 ∷ R12 ∷ R13 ∷ R14 ∷ R15 ∷ [])
    (user.r8 ∷ user.r9 ∷ user.r10 ∷ user.r11 ∷ user.r12 ∷ user.r13 ∷ user.r14 ∷ user.r15 ∷ [])

-- with all that the core has by their DWARF numbers
abbrev pub whole_x86_64 : UserRegsX86_64 → WholeRegs UnwindRegsX86_64
whole_x86_64 user = record { regs = registers_x86_64 user; others = Some (numbered_x86_64 user) }

-- where the walk over a thread's stack begins, if its registers are those of x86_64
abbrev pub start_x86_64 : ThreadRegisters → Option (ThreadStart (WholeRegs UnwindRegsX86_64))
start_x86_64 (X86_64 user) = Some (record { pc = user.rip; registers = whole_x86_64 user })
start_x86_64 (Aarch64 user) = None

-- the registers that each step gives
abbrev pub shown_x86_64 : UnwindRegsX86_64 → List Register
shown_x86_64 registers =
    shown_register (codes "rip") (ip_of registers)
    ∷ shown_register (codes "rsp") (sp_of registers)
    ∷ shown_register (codes "rbp") (bp_of registers) ∷ []

-- ---- aarch64

-- The bits of a code address that aren't its pointer authentication code: all others than the core's mask has, and all if it has none.
abbrev pub mask_of_thread : Option PointerAuthenticationMasks → PtrAuthMask
mask_of_thread None = aarch64.no_strip
mask_of_thread (Some masks) = record { 0 = 2 ^ 64 - 1 - masks.instruction_mask }

-- x30 without its authentication code, the stack pointer and x29
abbrev pub registers_aarch64 : UserRegsAarch64 → Option PointerAuthenticationMasks → UnwindRegsAarch64
registers_aarch64 user masks =
    let mask = mask_of_thread masks in
    aarch64.new_registers mask (aarch64.stripped_address mask (slice_index user.regs 30)) user.sp (slice_index user.regs 29)

-- with all that the core has by their DWARF numbers
abbrev pub whole_aarch64 : UserRegsAarch64 → Option PointerAuthenticationMasks → WholeRegs UnwindRegsAarch64
whole_aarch64 user masks = record { regs = registers_aarch64 user masks; others = Some (numbered_aarch64 user) }

-- where the walk over a thread's stack begins, if its registers are those of aarch64
abbrev pub start_aarch64 : ThreadRegisters → Option PointerAuthenticationMasks → Option (ThreadStart (WholeRegs UnwindRegsAarch64))
start_aarch64 (X86_64 user) masks = None
start_aarch64 (Aarch64 user) masks = Some (record { pc = user.pc; registers = whole_aarch64 user masks })

-- the registers that each step gives
abbrev pub shown_aarch64 : UnwindRegsAarch64 → List Register
shown_aarch64 registers =
    shown_register (codes "sp") (aarch64.sp_of registers)
    ∷ shown_register (codes "x29") (aarch64.fp_of registers)
    ∷ shown_register (codes "x30") (aarch64.lr_of registers) ∷ []
