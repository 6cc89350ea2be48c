-- What laws say of each caller that a rule of x86_64 gives.
use Rattle.std.specs.Prelude.{ℕ, ◌≡◌, Bool}
use Rattle.framehop_registers.specs.Callback.{Words}
use Rattle.framehop_registers.specs.Registers.{HasAllRegisters, sp_of}
use Rattle.framehop_registers.specs.declared.error.Error.{Error}
use Rattle.framehop_registers.specs.declared.x86_64.unwindregs.UnwindRegsX86_64.{UnwindRegsX86_64}
use Rattle.framehop_rules.specs.Outcome.{Answers, Refuses, Caller}
use Rattle.framehop_rules.specs.RuleMeaning.{moves, rule_meaning, IsAtReturn}
use Rattle.framehop_rules.specs.declared.x86_64.unwind_rule.UnwindRuleX86_64.{UnwindRuleX86_64}

-- It holds of a frame with all registers, the words of the stack, and the caller that any rule gives there.
abbrev pub OfEachCaller : (UnwindRegsX86_64 → Words → Caller UnwindRegsX86_64 → Type 0) → Type 0
OfEachCaller Holds =
    (rule : UnwindRuleX86_64) (is_first : Bool) (registers : UnwindRegsX86_64) (words : Words) (caller : Caller UnwindRegsX86_64)
    → HasAllRegisters registers → rule_meaning rule is_first registers words ≡ Answers caller → Holds registers words caller

-- It holds of them if the frame's registers are those after a call.
abbrev pub OfEachCallerAfterCall : (UnwindRegsX86_64 → Words → Caller UnwindRegsX86_64 → Type 0) → Type 0
OfEachCallerAfterCall Holds =
    (rule : UnwindRuleX86_64) (is_first : Bool) (registers : UnwindRegsX86_64) (words : Words) (caller : Caller UnwindRegsX86_64)
    → HasAllRegisters registers → IsAtReturn registers words → rule_meaning rule is_first registers words ≡ Answers caller
    → Holds registers words caller

-- The rule moves the stack pointer to where it is.
abbrev pub LeavesSp : UnwindRuleX86_64 → Bool → UnwindRegsX86_64 → Words → Type 0
LeavesSp rule is_first registers words = (bp : ℕ) × (moves rule is_first registers words ≡ Answers (sp_of registers, bp))

-- The rule gives this error.
abbrev pub IsRefusedAs : Error → UnwindRuleX86_64 → Bool → UnwindRegsX86_64 → Words → Type 0
IsRefusedAs error rule is_first registers words = rule_meaning rule is_first registers words ≡ Refuses error

-- Where the registers are those after a call, each rule that does the one is as the other says.
abbrev pub AfterEachCall : (Does Is : UnwindRuleX86_64 → Bool → UnwindRegsX86_64 → Words → Type 0) → Type 0
AfterEachCall Does Is =
    (rule : UnwindRuleX86_64) (is_first : Bool) (registers : UnwindRegsX86_64) (words : Words) → IsAtReturn registers words
    → Does rule is_first registers words → Is rule is_first registers words
