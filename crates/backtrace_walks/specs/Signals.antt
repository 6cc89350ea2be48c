-- Where a signal interrupted a thread, on Linux: what the kernel pushed is at the stack pointer of the code that a handler returns to
-- (rt_sigreturn).
use Rattle.std.specs.Prelude.{ℕ, ◌+◌, ◌*◌, ◌^◌, ◌%◌, ◌==◌, ◌&&◌, Bool, false, nat_lt, if◌then◌else◌, List, [], ◌∷◌, map, Option, Some, None, option_and_then, option_map, slice_get, unwrap_or}
use Rattle.std.specs.List.{range_with_len}
use Rattle.framehop_registers.specs.Callback.{Words}
use Rattle.framehop_registers.specs.Registers.{new_registers, sp_of, with_values}
use Rattle.framehop_registers.specs.RegistersAarch64 as aarch64
use Rattle.framehop_registers.specs.declared.aarch64.unwindregs.PtrAuthMask.{PtrAuthMask}
use Rattle.framehop_registers.specs.declared.aarch64.unwindregs.UnwindRegsAarch64.{UnwindRegsAarch64}
use Rattle.framehop_registers.specs.declared.x86_64.unwindregs.Reg.TheVariants.{RAX, RDX, RCX, RBX, RSI, RDI, R8, R9, R10, R11, R12, R13, R14, R15}
use Rattle.framehop_registers.specs.declared.x86_64.unwindregs.UnwindRegsX86_64.{UnwindRegsX86_64}
use Rattle.framehop_whole_steps.specs.Registers.{values_of}
use Rattle.framehop_whole_steps.specs.declared.registers.WholeRegs.{WholeRegs}
use Rattle.backtrace_walks.specs.declared.registers.ThreadStart.{ThreadStart}

-- Where a thread was that a signal interrupted, by the code address of the frame that the handler returns to, its registers and the
-- words of the stack: none, if no handler returns there.
abbrev pub Interruption : Type 0 → Type 0
Interruption Registers = Words → ℕ → Registers → Option (ThreadStart Registers)

-- the word at a distance above an address, at addresses of 64 bits
abbrev pub word_above : Words → ℕ → ℕ → Option ℕ
word_above words address distance = if nat_lt (address + distance) (2 ^ 64) then words (address + distance) else None

-- a register that was pushed there, and 0 if it can't be read
abbrev pub saved_word : Words → ℕ → ℕ → ℕ
saved_word words address distance = unwrap_or (word_above words address distance) 0

-- registers that were pushed at distances above a stack pointer, by their DWARF numbers, from 0 on, as far as they can be read
abbrev pub saved_by : Words → (sp : ℕ) → List ℕ → List (Option ℕ)
saved_by words sp distances = values_of (λ number. option_and_then (word_above words sp) (slice_get distances number))

-- a word is known, and is this one
abbrev pub is_word : ℕ → Option ℕ → Bool
is_word value None = false
is_word value (Some word) = word == value

-- a word is known, and this is its lowest byte
abbrev pub has_low_byte : ℕ → Option ℕ → Bool
has_low_byte value None = false
has_low_byte value (Some word) = (word % 256) == value

-- ---- x86_64

-- `mov $15, %rax` and `syscall`, of the bytes 48 c7 c0 0f 00 00 00 and 0f 05
abbrev pub returns_x86_64 : Words → ℕ → Bool
returns_x86_64 words code = is_word 0x0f0000000fc0c748 (words code) && has_low_byte 5 (word_above words code 8)

-- the registers of `struct ucontext`, which is at the stack pointer (arch/x86/include/uapi/asm/sigcontext.h), with its RIP
abbrev pub context_x86_64 : Words → ℕ → ℕ → UnwindRegsX86_64
context_x86_64 words sp pc =
    with_values (new_registers pc (saved_word words sp 160) (saved_word words sp 120))
    (R8 ∷ R9 ∷ R10 ∷ R11 ∷ R12 ∷ R13 ∷ R14 ∷ R15 ∷ RDI ∷ RSI ∷ RBX ∷ RDX ∷ RAX ∷ RCX ∷ [])
    (saved_word words sp 40 ∷ saved_word words sp 48 ∷ saved_word words sp 56 ∷ saved_word words sp 64 ∷ saved_word words sp 72
    ∷ saved_word words sp 80 ∷ saved_word words sp 88 ∷ saved_word words sp 96 ∷ saved_word words sp 104 ∷ saved_word words sp 112
    ∷ saved_word words sp 128 ∷ saved_word words sp 136 ∷ saved_word words sp 144 ∷ saved_word words sp 152 ∷ [])

-- registers with R8 to R15 there, and with RDI to RCX: parts of `context_x86_64`
abbrev pub with_saved_numbered : UnwindRegsX86_64 → Words → ℕ → UnwindRegsX86_64
with_saved_numbered registers words sp =
    with_values registers (R8 ∷ R9 ∷ R10 ∷ R11 ∷ R12 ∷ R13 ∷ R14 ∷ R15 ∷ [])
    (saved_word words sp 40 ∷ saved_word words sp 48 ∷ saved_word words sp 56 ∷ saved_word words sp 64 ∷ saved_word words sp 72
    ∷ saved_word words sp 80 ∷ saved_word words sp 88 ∷ saved_word words sp 96 ∷ [])

abbrev pub with_saved_lettered : UnwindRegsX86_64 → Words → ℕ → UnwindRegsX86_64
with_saved_lettered registers words sp =
    with_values registers (RDI ∷ RSI ∷ RBX ∷ RDX ∷ RAX ∷ RCX ∷ [])
    (saved_word words sp 104 ∷ saved_word words sp 112 ∷ saved_word words sp 128 ∷ saved_word words sp 136 ∷ saved_word words sp 144
    ∷ saved_word words sp 152 ∷ [])

-- all of them by their numbers, from RAX on to RIP
abbrev pub saved_x86_64 : Words → (sp : ℕ) → List (Option ℕ)
saved_x86_64 words sp =
    saved_by words sp
    (144 ∷ 136 ∷ 152 ∷ 128 ∷ 112 ∷ 104 ∷ 120 ∷ 160 ∷ 40 ∷ 48 ∷ 56 ∷ 64 ∷ 72 ∷ 80 ∷ 88 ∷ 96 ∷ 168 ∷ [])

abbrev pub whole_context_x86_64 : Words → ℕ → ℕ → WholeRegs UnwindRegsX86_64
whole_context_x86_64 words sp pc = record { regs = context_x86_64 words sp pc; others = Some (saved_x86_64 words sp) }

-- RIP is at 168 there
abbrev pub interrupted_x86_64 : Interruption (WholeRegs UnwindRegsX86_64)
interrupted_x86_64 words code registers =
    if returns_x86_64 words code
    then option_map (λ pc. record { pc = pc; registers = whole_context_x86_64 words (sp_of registers.regs) pc })
    (word_above words (sp_of registers.regs) 168)
    else None

-- ---- aarch64

-- the registers of `struct rt_sigframe`, which is at the stack pointer (arch/arm64/kernel/signal.c): x29, x30 and sp
abbrev pub context_aarch64 : Words → ℕ → PtrAuthMask → UnwindRegsAarch64
context_aarch64 words sp mask =
    aarch64.new_registers mask (aarch64.stripped_address mask (saved_word words sp 552)) (saved_word words sp 560) (saved_word words sp 544)

-- all of them by their numbers: x0 to x30, SP and PC, one behind the other
abbrev pub saved_aarch64 : Words → (sp : ℕ) → List (Option ℕ)
saved_aarch64 words sp = saved_by words sp (map (λ number. 312 + 8 * number) (range_with_len 0 33))

abbrev pub whole_context_aarch64 : Words → ℕ → PtrAuthMask → WholeRegs UnwindRegsAarch64
whole_context_aarch64 words sp mask = record { regs = context_aarch64 words sp mask; others = Some (saved_aarch64 words sp) }

-- `mov x8, #139` and `svc #0`; pc is at 568
abbrev pub interrupted_aarch64 : Interruption (WholeRegs UnwindRegsAarch64)
interrupted_aarch64 words code registers =
    let sp = aarch64.sp_of registers.regs in
    if is_word 0xd4000001d2801168 (words code)
    then option_map (λ pc. record { pc = pc; registers = whole_context_aarch64 words sp (aarch64.mask_of registers.regs) }) (word_above words sp 568)
    else None
