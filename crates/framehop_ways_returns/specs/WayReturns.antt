-- The machine that executes a way, and where it returns to.
--
-- Calls, plain instructions and stores of other registers may do anything but what the calling convention asks of a function: they leave
-- the stack pointer, x29 and the words from which the function loads x29 and x30 afterwards.
use Rattle.std.specs.Prelude.{ℕ, ◌≡◌, ◌<◌, ◌^◌, Bool, true, false, IsTrue, Some, if◌then◌else◌, ℤ, pos, zero, ◌+ℤ◌, List, [], ◌∷◌}
use Rattle.framehop_registers.specs.Callback.{Words}
use Rattle.framehop_registers.specs.RegistersAarch64.{stripped_address, mask_of, lr_of, sp_of, fp_of}
use Rattle.framehop_registers.specs.declared.aarch64.unwindregs.PtrAuthMask.{PtrAuthMask}
use Rattle.framehop_registers.specs.declared.aarch64.unwindregs.UnwindRegsAarch64.{UnwindRegsAarch64}
use Rattle.framehop_rules.specs.Outcome.{Answers, Caller}
use Rattle.framehop_rules.specs.RuleMeaningAarch64.{rule_meaning}
use Rattle.framehop_rules.specs.declared.aarch64.unwind_rule.UnwindRuleAarch64.{UnwindRuleAarch64}
use Rattle.framehop_analysis.specs.MachineAarch64.{State, moved, put, leave}
use Rattle.framehop_analysis.specs.PrologueInstructionsAarch64.{register, with_word}
use Rattle.framehop_analysis.specs.ReturnsAarch64.{HasReturned}
use Rattle.framehop_ways.specs.Values.{is_carried}
use Rattle.framehop_ways.specs.declared.executed.Executed.{Executed}
use Rattle.framehop_ways.specs.declared.instruction.Access.{Access}
use Rattle.framehop_ways.specs.declared.instruction.Base.{Base}
use Rattle.framehop_ways.specs.declared.instruction.Base.TheVariants.{StackPointer, FramePointer}
use Rattle.framehop_ways.specs.declared.instruction.Instruction.{Instruction}
use Rattle.framehop_ways.specs.declared.instruction.Instruction.TheVariants.{Load, Store, Move, Sign, Call, Plain, Unknown}

-- What a base holds.
abbrev pub base_in : State → Base → ℕ
base_in s StackPointer = s.sp
base_in s FramePointer = s.fp

abbrev pub with_base_in : State → Base → ℕ → State
with_base_in s StackPointer value = record s { sp = value }
with_base_in s FramePointer value = record s { fp = value }

-- A register goes up by a number of bytes, modulo 2^64; it isn't written for 0.
abbrev pub gone_up : ℕ → ℤ → ℕ
gone_up value (pos zero) = value
gone_up value by = moved value by

abbrev pub state_raised : Access → State → State
state_raised access s = with_base_in s access.base (gone_up (base_in s access.base) access.raise)

-- The addresses of an access, relative to the base before it.
abbrev pub first_address : Access → State → ℕ
first_address access s = moved (base_in s access.base) access.offset

abbrev pub second_address : Access → State → ℕ
second_address access s = moved (base_in s access.base) (access.offset +ℤ pos 8)

-- A load of two registers; number 31 is none.
abbrev pub state_after_load : Access → State → State
state_after_load access s =
    put access.second (s.memory (second_address access s)) (put access.first (s.memory (first_address access s)) (state_raised access s))

-- A store of x29 or x30.
abbrev pub stored_in : (ℕ → ℕ) → ℕ → ℕ → ℕ → (ℕ → ℕ)
stored_in memory number at value = if is_carried number then with_word memory at value else memory

abbrev pub state_after_store : Access → State → State
state_after_store access s =
    let first = stored_in s.memory access.first (first_address access s) (register s access.first) in
    record (state_raised access s) { memory = stored_in first access.second (second_address access s) (register s access.second) }

-- The words of a set stay.
abbrev pub Keeps : (ℕ → Bool) → State → State → Type 0
Keeps kept s t = (at : ℕ) → IsTrue (kept at) → t.memory at ≡ s.memory at

-- The states agree in the three registers and in the words of a set.
pub record Agrees (kept : ℕ → Bool) (s t : State) : Type 0 where
  pub sp : t.sp ≡ s.sp
  pub fp : t.fp ≡ s.fp
  pub lr : t.lr ≡ s.lr
  pub words : Keeps kept s t

-- x29 and x30 are loaded from words of the set.
pub record LoadsKept (kept : ℕ → Bool) (access : Access) (s : State) : Type 0 where
  pub first : IsTrue (is_carried access.first) → IsTrue (kept (first_address access s))
  pub second : IsTrue (is_carried access.second) → IsTrue (kept (second_address access s))

-- An instruction leads from one state to another.
abbrev pub IsStep : PtrAuthMask → (ℕ → Bool) → Instruction → State → State → Type 0
IsStep mask kept (Load access) s t = LoadsKept kept access s × Agrees kept (state_after_load access s) t
IsStep mask kept (Store access) s t = Agrees kept (state_after_store access s) t
IsStep mask kept (Move to from bytes) s t = Agrees kept (with_base_in s to (gone_up (base_in s from) bytes)) t
IsStep mask kept Sign s t =
    (t.sp ≡ s.sp) × (t.fp ≡ s.fp) × (stripped_address mask t.lr ≡ stripped_address mask s.lr) × Keeps kept s t
IsStep mask kept Call s t = (t.sp ≡ s.sp) × (t.fp ≡ s.fp) × Keeps kept s t
IsStep mask kept (Plain lost) s t =
    (lost.sp ≡ false → t.sp ≡ s.sp) × (lost.fp ≡ false → t.fp ≡ s.fp) × (lost.lr ≡ false → t.lr ≡ s.lr) × Keeps kept s t
IsStep mask kept Unknown s t = Unit {0}
IsStep mask kept other s t = Agrees kept s t

-- The instructions of a way, one after the other.
abbrev pub Runs : PtrAuthMask → (ℕ → Bool) → List Executed → State → State → Type 0
Runs mask kept [] s t = s ≡ t
Runs mask kept (one ∷ more) s t = (mid : State) × IsStep mask kept one.instruction s mid × Runs mask kept more mid t

-- The frame is where the machine is, a later one where its call has returned: the stack pointer and x29 are the machine's, and the words that
-- can be read are those of the memory. The link register is the machine's, under the mask, in a first frame alone: a call leaves anything in it.
pub record IsFrameAt (is_first : Bool) (state : State) (registers : UnwindRegsAarch64) (words : Words) : Type 0 where
  pub fits : state.sp < 2 ^ 64
  pub sp : state.sp ≡ sp_of registers
  pub fp : state.fp ≡ fp_of registers
  pub lr : is_first ≡ true → stripped_address (mask_of registers) state.lr ≡ stripped_address (mask_of registers) (lr_of registers)
  pub part : (at word : ℕ) → words at ≡ Some word → state.memory at ≡ word

-- The caller that the rule gives to a frame, a first or a later one, is where the machine is once it has executed the way.
abbrev pub WayReturns : (is_first : Bool) → List Executed → UnwindRuleAarch64 → Type 0
WayReturns is_first way rule =
    (kept : ℕ → Bool) (s t : State) (registers : UnwindRegsAarch64) (words : Words) (caller : Caller UnwindRegsAarch64)
    → Runs (mask_of registers) kept way s t → s.fp < 2 ^ 64 → IsFrameAt is_first s registers words
    → rule_meaning rule is_first registers words ≡ Answers caller → HasReturned (leave [] t) registers caller
