-- Where a signal interrupted a thread, on Linux: what the kernel pushed is at the stack pointer of the code that a handler returns to
-- (rt_sigreturn).
use Rattle.std.specs.Prelude.{ℕ, ◌+◌, ◌^◌, ◌&&◌, Bool, false, nat_eq, nat_lt, if◌then◌else◌, List, [], ◌∷◌, Option, Some, None, option_map, unwrap_or}
use Rattle.std.specs.List.{starts_with}
use Rattle.framehop_registers.specs.Callback.{Words}
use Rattle.framehop_registers.specs.Registers.{new_registers, sp_of, with_values}
use Rattle.framehop_registers.specs.RegistersAarch64 as aarch64
use Rattle.framehop_registers.specs.declared.aarch64.unwindregs.UnwindRegsAarch64.{UnwindRegsAarch64}
use Rattle.framehop_registers.specs.declared.x86_64.unwindregs.Reg.TheVariants.{RAX, RDX, RCX, RBX, RSI, RDI, R8, R9, R10, R11, R12, R13, R14, R15}
use Rattle.framehop_registers.specs.declared.x86_64.unwindregs.UnwindRegsX86_64.{UnwindRegsX86_64}
use Rattle.sample_stacks.specs.declared.arch.SampleStart.{SampleStart}

-- Where a thread was that a signal interrupted, by the words of the stack, the bytes of the code that the handler returns to, and the
-- registers there: none, if no handler returns to such code.
abbrev pub Interruption : Type 0 → Type 0
Interruption Registers = Words → List ℕ → Registers → Option (SampleStart Registers)

-- the word at a distance above an address, at addresses of 64 bits
abbrev pub word_above : Words → ℕ → ℕ → Option ℕ
word_above words address distance = if nat_lt (address + distance) (2 ^ 64) then words (address + distance) else None

-- a register that was pushed there, and 0 if it can't be read
abbrev pub saved_word : Words → ℕ → ℕ → ℕ
saved_word words address distance = unwrap_or (word_above words address distance) 0

-- a word is known, and is below this number
abbrev pub is_word_below : ℕ → Option ℕ → Bool
is_word_below most None = false
is_word_below most (Some word) = nat_lt word most

-- what is so far above an address may be a `struct ucontext` that the kernel pushed: it begins with flags below 8 and no link
abbrev pub has_context_above : Words → ℕ → ℕ → Bool
has_context_above words address distance =
    is_word_below 8 (word_above words address distance) && is_word_below 1 (word_above words address (distance + 8))

-- ---- x86_64

-- it is at the stack pointer
abbrev pub has_context_x86_64 : Words → UnwindRegsX86_64 → Bool
has_context_x86_64 words registers = has_context_above words (sp_of registers) 0

-- `mov $15, %rax` and `syscall`
abbrev pub returns_x86_64 : List ℕ → Bool
returns_x86_64 code = starts_with nat_eq code (0x48 ∷ 0xc7 ∷ 0xc0 ∷ 0x0f ∷ 0 ∷ 0 ∷ 0 ∷ 0x0f ∷ 0x05 ∷ [])

-- registers with R8 to R15 of `struct ucontext` at the stack pointer (arch/x86/include/uapi/asm/sigcontext.h), and with RDI to RCX
abbrev pub with_saved_numbered : UnwindRegsX86_64 → Words → ℕ → UnwindRegsX86_64
with_saved_numbered registers words sp =
    with_values registers (R8 ∷ R9 ∷ R10 ∷ R11 ∷ R12 ∷ R13 ∷ R14 ∷ R15 ∷ [])
    (saved_word words sp 40 ∷ saved_word words sp 48 ∷ saved_word words sp 56 ∷ saved_word words sp 64 ∷ saved_word words sp 72
    ∷ saved_word words sp 80 ∷ saved_word words sp 88 ∷ saved_word words sp 96 ∷ [])

abbrev pub with_saved_lettered : UnwindRegsX86_64 → Words → ℕ → UnwindRegsX86_64
with_saved_lettered registers words sp =
    with_values registers (RDI ∷ RSI ∷ RBX ∷ RDX ∷ RAX ∷ RCX ∷ [])
    (saved_word words sp 104 ∷ saved_word words sp 112 ∷ saved_word words sp 128 ∷ saved_word words sp 136 ∷ saved_word words sp 144
    ∷ saved_word words sp 152 ∷ [])

-- all of them, with RIP
abbrev pub context_x86_64 : Words → ℕ → ℕ → UnwindRegsX86_64
context_x86_64 words sp ip =
    with_saved_lettered (with_saved_numbered (new_registers ip (saved_word words sp 160) (saved_word words sp 120)) words sp) words sp

-- a walk begins anew at RIP, which is at 168 there
abbrev pub interrupted_start_x86_64 : Words → ℕ → ℕ → SampleStart UnwindRegsX86_64
interrupted_start_x86_64 words sp ip =
    record { instruction_pointer = ip; stack_pointer = saved_word words sp 160; registers = context_x86_64 words sp ip }

abbrev pub interrupted_x86_64 : Interruption UnwindRegsX86_64
interrupted_x86_64 words code registers =
    let sp = sp_of registers in
    if returns_x86_64 code then option_map (interrupted_start_x86_64 words sp) (word_above words sp 168) else None

-- ---- aarch64

-- it is behind 128 bytes of `siginfo_t`
abbrev pub has_context_aarch64 : Words → UnwindRegsAarch64 → Bool
has_context_aarch64 words registers = has_context_above words (aarch64.sp_of registers) 128

-- `mov x8, #139` and `svc #0`
abbrev pub returns_aarch64 : List ℕ → Bool
returns_aarch64 code = starts_with nat_eq code (0x68 ∷ 0x11 ∷ 0x80 ∷ 0xd2 ∷ 0x01 ∷ 0 ∷ 0 ∷ 0xd4 ∷ [])

-- x29, x30 and sp of `struct rt_sigframe` at the stack pointer (arch/arm64/kernel/signal.c), and pc, which is at 568 there
abbrev pub interrupted_start_aarch64 : Words → UnwindRegsAarch64 → ℕ → SampleStart UnwindRegsAarch64
interrupted_start_aarch64 words registers ip =
    let sp = aarch64.sp_of registers in
    let mask = aarch64.mask_of registers in
    record {
      instruction_pointer = ip;
      stack_pointer = saved_word words sp 560;
      registers = aarch64.new_registers mask (aarch64.stripped_address mask (saved_word words sp 552)) (saved_word words sp 560) (saved_word words sp 544);
    }

abbrev pub interrupted_aarch64 : Interruption UnwindRegsAarch64
interrupted_aarch64 words code registers =
    if returns_aarch64 code then option_map (interrupted_start_aarch64 words registers) (word_above words (aarch64.sp_of registers) 568) else None
