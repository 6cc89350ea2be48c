-- What samples mean on each architecture: where their walks begin, and what steps go by.
use Rattle.std.specs.Prelude.{ℕ, Bool, List, [], ◌∷◌, Option, None, option_map, unwrap_or}
use Rattle.framehop.specs.StepMeanings.{meanings_aarch64, meanings_x86_64}
use Rattle.framehop_loads.specs.StepLimits.{limits_must_not_allocate}
use Rattle.framehop_loads.specs.UnwindData.{UnwindData}
use Rattle.framehop_registers.specs.Callback.{Words}
use Rattle.framehop_registers.specs.Registers.{new_registers, with_values}
use Rattle.framehop_registers.specs.RegistersAarch64 as aarch64
use Rattle.framehop_registers.specs.declared.aarch64.unwindregs.PtrAuthMask.{PtrAuthMask}
use Rattle.framehop_registers.specs.declared.aarch64.unwindregs.UnwindRegsAarch64.{UnwindRegsAarch64}
use Rattle.framehop_registers.specs.declared.x86_64.unwindregs.Reg.TheVariants.{RAX, RDX, RCX, RBX, RSI, RDI, R8, R9, R10, R11, R12, R13, R14, R15}
use Rattle.framehop_registers.specs.declared.x86_64.unwindregs.UnwindRegsX86_64.{UnwindRegsX86_64}
use Rattle.framehop_rules.specs.declared.aarch64.unwind_rule.UnwindRuleAarch64.{UnwindRuleAarch64}
use Rattle.framehop_rules.specs.declared.x86_64.unwind_rule.UnwindRuleX86_64.{UnwindRuleX86_64}
use Rattle.framehop_unwinder.specs.Attempt.{Meanings}
use Rattle.perf_files.specs.Registers.{register_of, start_aarch64, start_x86_64}
use Rattle.perf_files.specs.declared.registers.RegisterAbi.{RegisterAbi}
use Rattle.perf_files.specs.declared.registers.RegisterAbi.TheVariants.{Bits32}
use Rattle.perf_files.specs.declared.registers.SavedRegisters.{SavedRegisters}
use Rattle.perf_files.specs.declared.registers.WalkStart.{WalkStart}
use Rattle.sample_stacks.specs.Signals.{Interruption, has_context_aarch64, has_context_x86_64, interrupted_aarch64, interrupted_x86_64}
use Rattle.sample_stacks.specs.declared.arch.SampleStart.{SampleStart}

-- What samples mean: what steps go by; where the walk of a sample begins by its registers; the instruction pointer of code of 32 bits;
-- whether there may be what the kernel pushes for a signal, and where the signal interrupted the thread.
pub record SampleMeanings (Rule Registers : Type 0) : Type 0 where
  pub steps : Meanings UnwindData Rule Registers
  pub start : SavedRegisters → Option (SampleStart Registers)
  pub pointer_of_32_bits : SavedRegisters → Option ℕ
  pub has_context : Words → Registers → Bool
  pub interrupted : Interruption Registers

-- what is made of registers of code of 32 bits
abbrev pub of_32_bits : RegisterAbi → Option ℕ → Option ℕ
of_32_bits Bits32 made = made
of_32_bits _ made = None

-- the instruction pointer of such code, by the kernel's number
abbrev pub pointer_by : ℕ → SavedRegisters → Option ℕ
pointer_by number registers = of_32_bits registers.abi (register_of registers number)

-- a register by the kernel's number, and 0 if it wasn't recorded
abbrev pub register_or_0 : SavedRegisters → ℕ → ℕ
register_or_0 registers number = unwrap_or (register_of registers number) 0

-- ---- x86_64 (Linux, arch/x86/include/uapi/asm/perf_regs.h)

-- registers with RAX to RDI of a sample, and with R8 to R15
abbrev pub with_lettered : UnwindRegsX86_64 → SavedRegisters → UnwindRegsX86_64
with_lettered registers saved =
    with_values registers (RAX ∷ RDX ∷ RCX ∷ RBX ∷ RSI ∷ RDI ∷ [])
    (register_or_0 saved 0 ∷ register_or_0 saved 3 ∷ register_or_0 saved 2 ∷ register_or_0 saved 1 ∷ register_or_0 saved 4
    ∷ register_or_0 saved 5 ∷ [])

abbrev pub with_numbered : UnwindRegsX86_64 → SavedRegisters → UnwindRegsX86_64
with_numbered registers saved =
    with_values registers (R8 ∷ R9 ∷ R10 ∷ R11 ∷ R12 ∷ R13 ∷ R14 ∷ R15 ∷ [])
    (register_or_0 saved 16 ∷ register_or_0 saved 17 ∷ register_or_0 saved 18 ∷ register_or_0 saved 19 ∷ register_or_0 saved 20
    ∷ register_or_0 saved 21 ∷ register_or_0 saved 22 ∷ register_or_0 saved 23 ∷ [])

-- RIP and all general registers
abbrev pub registers_x86_64 : SavedRegisters → ℕ → ℕ → UnwindRegsX86_64
registers_x86_64 saved ip sp = with_numbered (with_lettered (new_registers ip sp (register_or_0 saved 6)) saved) saved

-- where a walk begins at these pointers
abbrev pub start_of_x86_64 : SavedRegisters → WalkStart → SampleStart UnwindRegsX86_64
start_of_x86_64 saved start = record {
  instruction_pointer = start.instruction_pointer;
  stack_pointer = start.stack_pointer;
  registers = registers_x86_64 saved start.instruction_pointer start.stack_pointer;
}

-- those of x86_64, with room for 64 values of an expression
abbrev pub samples_x86_64 : SampleMeanings UnwindRuleX86_64 UnwindRegsX86_64
samples_x86_64 = record {
  steps = meanings_x86_64 limits_must_not_allocate;
  start = λ saved. option_map (start_of_x86_64 saved) (start_x86_64 saved);
  pointer_of_32_bits = pointer_by 8;
  has_context = has_context_x86_64;
  interrupted = interrupted_x86_64;
}

-- ---- aarch64 (Linux, arch/arm64/include/uapi/asm/perf_regs.h)

-- the bits of a code address of user code: it has 48, and codes of pointer authentication are above them
abbrev pub address_bits : PtrAuthMask
address_bits = record { 0 = 0xffffffffffff }

-- x30 without its authentication code, the stack pointer and x29
abbrev pub registers_aarch64 : SavedRegisters → ℕ → UnwindRegsAarch64
registers_aarch64 saved sp =
    aarch64.new_registers address_bits (aarch64.stripped_address address_bits (register_or_0 saved 30)) sp (register_or_0 saved 29)

-- where a walk begins at these pointers
abbrev pub start_of_aarch64 : SavedRegisters → WalkStart → SampleStart UnwindRegsAarch64
start_of_aarch64 saved start = record {
  instruction_pointer = start.instruction_pointer;
  stack_pointer = start.stack_pointer;
  registers = registers_aarch64 saved start.stack_pointer;
}

-- those of aarch64, with room for 64 values of an expression
abbrev pub samples_aarch64 : SampleMeanings UnwindRuleAarch64 UnwindRegsAarch64
samples_aarch64 = record {
  steps = meanings_aarch64 limits_must_not_allocate;
  start = λ saved. option_map (start_of_aarch64 saved) (start_aarch64 saved);
  pointer_of_32_bits = pointer_by 32;
  has_context = has_context_aarch64;
  interrupted = interrupted_aarch64;
}
