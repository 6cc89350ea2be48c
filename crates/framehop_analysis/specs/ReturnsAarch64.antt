-- The machine beside the registers and the stack of a first frame, before and after its step.
use Rattle.std.specs.Prelude.{ℕ, ◌≡◌, ◌<◌, ◌^◌, true, List, [], Some}
use Rattle.framehop_registers.specs.Callback.{Words}
use Rattle.framehop_registers.specs.RegistersAarch64.{stripped_address, mask_of, lr_of, sp_of, fp_of}
use Rattle.framehop_registers.specs.declared.aarch64.unwindregs.UnwindRegsAarch64.{UnwindRegsAarch64}
use Rattle.framehop_rules.specs.Outcome.{Answers, Caller}
use Rattle.framehop_rules.specs.RuleMeaningAarch64.{rule_meaning}
use Rattle.framehop_rules.specs.declared.aarch64.unwind_rule.UnwindRuleAarch64.{UnwindRuleAarch64}
use Rattle.framehop_analysis.specs.EpilogueInstructionsAarch64.{EpilogueInstruction}
use Rattle.framehop_analysis.specs.PrologueInstructionsAarch64.{PrologueInstruction, state_after_prologue}
use Rattle.framehop_analysis.specs.EpilogueAarch64.{FieldsFit, IsRuleOfEpilogue}
use Rattle.framehop_analysis.specs.LookBackAarch64.{IsEpilogue}
use Rattle.framehop_analysis.specs.PrologueAarch64.{IsPrologue, IsRuleOfPrologue}
use Rattle.framehop_analysis.specs.MachineAarch64.{State, CheckInstruction, leave, state_after_epilogue}

-- The frame is where the machine is: its registers are the machine's, the return address under the mask, and the words that can
-- be read are those of the memory.
pub record IsAt (state : State) (registers : UnwindRegsAarch64) (words : Words) : Type 0 where
  pub fits : state.sp < 2 ^ 64
  pub sp : state.sp ≡ sp_of registers
  pub fp : state.fp ≡ fp_of registers
  pub lr : stripped_address (mask_of registers) state.lr ≡ stripped_address (mask_of registers) (lr_of registers)
  pub part : (at word : ℕ) → words at ≡ Some word → state.memory at ≡ word

-- The caller is where the machine is after its return, the return address under the mask.
pub record HasReturned (state : State) (registers : UnwindRegsAarch64) (caller : Caller UnwindRegsAarch64) : Type 0 where
  pub ip : caller.return_address ≡ stripped_address (mask_of registers) state.ip
  pub sp : sp_of caller.registers ≡ state.sp
  pub fp : fp_of caller.registers ≡ state.fp

-- Of each list that is recognised as an epilogue, with its rule.
abbrev pub OfEachEpilogue : (List EpilogueInstruction → UnwindRuleAarch64 → Type 0) → Type 0
OfEachEpilogue P =
    (text : List ℕ) (offset : ℕ) (instructions : List EpilogueInstruction) (rule : UnwindRuleAarch64)
    → IsEpilogue text offset instructions → FieldsFit rule → IsRuleOfEpilogue instructions rule → P instructions rule

-- Of each list that is recognised as a prologue, with its rule.
abbrev pub OfEachPrologue : (List PrologueInstruction → UnwindRuleAarch64 → Type 0) → Type 0
OfEachPrologue P =
    (before from : List ℕ) (instructions : List PrologueInstruction) (rule : UnwindRuleAarch64)
    → IsPrologue before from instructions → FieldsFit rule → IsRuleOfPrologue instructions rule → P instructions rule

-- Each caller that a rule gives to a first frame where the machine is in one state is where it is in another, after its return.
abbrev pub ReturnsTo : UnwindRuleAarch64 → State → State → Type 0
ReturnsTo rule state after =
    (registers : UnwindRegsAarch64) (words : Words) (caller : Caller UnwindRegsAarch64)
    → IsAt state registers words → rule_meaning rule true registers words ≡ Answers caller → HasReturned after registers caller

-- By the rule of an epilogue a frame at any state returns to where the machine is once it has executed the epilogue and left the
-- function, after checks of the address or none.
abbrev pub EpilogueReturns : List EpilogueInstruction → UnwindRuleAarch64 → Type 0
EpilogueReturns list rule =
    (checks : List CheckInstruction) (state : State) → ReturnsTo rule state (leave checks (state_after_epilogue list state))

-- By the rule of a prologue a frame returns to where the machine is after a return from the state before the prologue.
abbrev pub PrologueReturns : List PrologueInstruction → UnwindRuleAarch64 → Type 0
PrologueReturns list rule = (before : State) → before.sp < 2 ^ 64 → ReturnsTo rule (state_after_prologue list before) (leave [] before)
