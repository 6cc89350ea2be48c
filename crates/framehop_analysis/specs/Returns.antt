-- The machine beside the registers and the stack of a first frame, before and after its step.
use Rattle.std.specs.Prelude.{ℕ, ◌≡◌, ◌≢◌, ◌+◌, ◌*◌, ◌<◌, ◌≤◌, ◌^◌, Bool, true, List, [], ◌∷◌, Some}
use Rattle.framehop_registers.specs.Callback.{Words}
use Rattle.framehop_registers.specs.Registers.{HasAllRegisters, sp_of, bp_of}
use Rattle.framehop_registers.specs.declared.x86_64.unwindregs.UnwindRegsX86_64.{UnwindRegsX86_64}
use Rattle.framehop_rules.specs.Outcome.{Answers, Caller}
use Rattle.framehop_rules.specs.RuleMeaning.{rule_meaning}
use Rattle.framehop_rules.specs.declared.x86_64.unwind_rule.UnwindRuleX86_64.{UnwindRuleX86_64}
use Rattle.framehop_analysis.specs.Instructions.{NoRex, Rex, Instruction, Push, Pop}
use Rattle.framehop_analysis.specs.Epilogue.{IsEpilogue, epilogue_rule}
use Rattle.framehop_analysis.specs.Prologue.{IsPrologue, prologue, prologue_rule}
use Rattle.framehop_analysis.specs.Machine.{State, state_after, returned}

-- The frame is where the machine is: its stack pointer and frame pointer are the machine's, and the words that can be read are
-- those of the memory.
pub record IsAt (state : State) (registers : UnwindRegsX86_64) (words : Words) : Type 0 where
  pub all : HasAllRegisters registers
  pub sp : state.sp ≡ sp_of registers
  pub bp : state.bp ≡ bp_of registers
  pub part : (at word : ℕ) → words at ≡ Some word → state.memory at ≡ word

-- The caller is where the machine is after its return.
pub record HasReturned (state : State) (caller : Caller UnwindRegsX86_64) : Type 0 where
  pub ip : caller.return_address ≡ state.ip
  pub sp : sp_of caller.registers ≡ state.sp
  pub bp : bp_of caller.registers ≡ state.bp

-- Not `pop rsp`, and not `pop rbp` with the prefix 40. The rule of an epilogue takes these for pops of other registers.
abbrev pub IsReadAsExecuted : Instruction → Type 0
IsReadAsExecuted (Pop NoRex low) = low ≢ 4
IsReadAsExecuted (Pop Rex low) = (low ≢ 4) × (low ≢ 5)
IsReadAsExecuted other = Unit {0}

-- How many words the instructions push.
abbrev pub pushed_words : List Instruction → ℕ
pushed_words [] = 0
pushed_words (Push rex low ∷ more) = 1 + pushed_words more
pushed_words (other ∷ more) = pushed_words more

-- From this state on the instructions don't move the stack pointer past 0.
pub record HasRoom (before : State) (instructions : List Instruction) : Type 0 where
  pub fits : before.sp < 2 ^ 64
  pub room : 8 * pushed_words instructions ≤ before.sp

-- Of each list that is recognised as an epilogue, with its rule.
abbrev pub OfEachEpilogue : (List Instruction → UnwindRuleX86_64 → Type 0) → Type 0
OfEachEpilogue P =
    (text : List ℕ) (offset : ℕ) (instructions : List Instruction) (rule : UnwindRuleX86_64)
    → IsEpilogue text offset instructions → epilogue_rule instructions ≡ Some rule → P instructions rule

-- Of each list that is recognised as a prologue, with its rule.
abbrev pub OfEachPrologue : (List Instruction → UnwindRuleX86_64 → Type 0) → Type 0
OfEachPrologue P =
    (text : List ℕ) (offset : ℕ) (has_setup : Bool) (pushes : List Instruction) (rule : UnwindRuleX86_64)
    → IsPrologue text offset has_setup pushes → prologue_rule has_setup pushes ≡ Some rule → P (prologue has_setup pushes) rule

-- Each caller that a rule gives to a first frame where the machine is in one state is where it is in another, after its return.
abbrev pub ReturnsTo : UnwindRuleX86_64 → State → State → Type 0
ReturnsTo rule state after =
    (registers : UnwindRegsX86_64) (words : Words) (caller : Caller UnwindRegsX86_64)
    → IsAt state registers words → rule_meaning rule true registers words ≡ Answers caller → HasReturned after caller

-- By the rule of an epilogue a frame at any state returns to where the machine is once it has executed the epilogue.
abbrev pub EpilogueReturns : List Instruction → UnwindRuleX86_64 → Type 0
EpilogueReturns list rule = (state : State) → ReturnsTo rule state (state_after list state)

-- By the rule of a prologue a frame returns to where the machine is after a return from the state before the prologue.
abbrev pub PrologueReturns : List Instruction → UnwindRuleX86_64 → Type 0
PrologueReturns list rule = (before : State) → HasRoom before list → ReturnsTo rule (state_after list before) (returned before)
