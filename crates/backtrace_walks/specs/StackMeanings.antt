-- What backtraces go by on each architecture.
use Rattle.std.specs.Prelude.{List, Option}
use Rattle.backtrace_text.specs.Frames.{Register}
use Rattle.core_files.specs.declared.thread.Thread.{Thread}
use Rattle.framehop_loads.specs.StepLimits.{limits_must_not_allocate}
use Rattle.framehop_loads.specs.UnwindData.{UnwindData}
use Rattle.framehop_registers.specs.Callback.{Words}
use Rattle.framehop_registers.specs.declared.aarch64.unwindregs.UnwindRegsAarch64.{UnwindRegsAarch64}
use Rattle.framehop_registers.specs.declared.x86_64.unwindregs.UnwindRegsX86_64.{UnwindRegsX86_64}
use Rattle.framehop_rules.specs.declared.aarch64.unwind_rule.UnwindRuleAarch64.{UnwindRuleAarch64}
use Rattle.framehop_rules.specs.declared.x86_64.unwind_rule.UnwindRuleX86_64.{UnwindRuleX86_64}
use Rattle.framehop_unwinder.specs.Attempt.{Meanings}
use Rattle.framehop_unwinder.specs.Judge.{judge}
use Rattle.framehop_unwinder.specs.Modules.{Loaded}
use Rattle.framehop_unwinder.specs.Walk.{Walk}
use Rattle.framehop_whole_modules.specs.StepMeanings.{whole_aarch64, whole_x86_64}
use Rattle.framehop_whole_steps.specs.declared.registers.WholeRegs.{WholeRegs}
use Rattle.framehop_whole_steps.specs.declared.rule.WholeRule.{WholeRule}
use Rattle.backtrace_walks.specs.Calls.{Calling, called_aarch64, called_x86_64}
use Rattle.backtrace_walks.specs.Registers.{shown_aarch64, shown_x86_64, start_aarch64, start_x86_64}
use Rattle.backtrace_walks.specs.Signals.{Interruption, interrupted_aarch64, interrupted_x86_64}
use Rattle.backtrace_walks.specs.Walks.{Advance, advance}
use Rattle.backtrace_walks.specs.declared.registers.ThreadStart.{ThreadStart}

-- What the stacks of threads mean on an architecture: what steps go by; where the walk over a thread's stack begins, if the thread has
-- registers of this architecture; where a signal interrupted a thread; where a call was made; and which registers of a frame are shown.
pub record StackMeanings (Rule Registers : Type 0) : Type 0 where
  pub steps : Meanings UnwindData Rule Registers
  pub start : Thread → Option (ThreadStart Registers)
  pub interrupted : Interruption Registers
  pub called : Calling Registers
  pub shown : Registers → List Register

-- those of x86_64, with room for 64 values of an expression
abbrev pub stacks_x86_64 : StackMeanings (WholeRule UnwindRuleX86_64) (WholeRegs UnwindRegsX86_64)
stacks_x86_64 = record {
  steps = whole_x86_64 limits_must_not_allocate;
  start = λ thread. start_x86_64 thread.registers;
  interrupted = interrupted_x86_64;
  called = called_x86_64;
  shown = λ registers. shown_x86_64 registers.regs;
}

-- those of aarch64, with room for 64 values of an expression
abbrev pub stacks_aarch64 : StackMeanings (WholeRule UnwindRuleAarch64) (WholeRegs UnwindRegsAarch64)
stacks_aarch64 = record {
  steps = whole_aarch64 limits_must_not_allocate;
  start = λ thread. start_aarch64 thread.registers thread.pointer_authentication_masks;
  interrupted = interrupted_aarch64;
  called = called_aarch64;
  shown = λ registers. shown_aarch64 registers.regs;
}

-- a move of a walk over a stack by these modules: a signal's frame is read from the memory, and steps read these words
abbrev pub advance_by : {Rule Registers : Type 0} → StackMeanings Rule Registers → List (Loaded UnwindData) → Words → Words → Walk Registers
    → Advance Registers
advance_by stacks modules memory words walk = advance (judge stacks.steps modules) (stacks.interrupted memory) words walk
