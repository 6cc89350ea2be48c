-- What laws say of each caller that a rule of aarch64 gives.
use Rattle.std.specs.Prelude.{◌≡◌, false}
use Rattle.framehop_registers.specs.Callback.{Words}
use Rattle.framehop_registers.specs.declared.aarch64.unwindregs.UnwindRegsAarch64.{UnwindRegsAarch64}
use Rattle.framehop_rules.specs.Outcome.{Answers, Caller}
use Rattle.framehop_rules.specs.RuleMeaningAarch64.{rule_meaning}
use Rattle.framehop_rules.specs.declared.aarch64.unwind_rule.UnwindRuleAarch64.{UnwindRuleAarch64}

-- It holds of a later frame and the caller that any rule gives there, on any stack.
abbrev pub OfEachLaterCaller : (UnwindRegsAarch64 → Caller UnwindRegsAarch64 → Type 0) → Type 0
OfEachLaterCaller Holds =
    (rule : UnwindRuleAarch64) (registers : UnwindRegsAarch64) (words : Words) (caller : Caller UnwindRegsAarch64)
    → rule_meaning rule false registers words ≡ Answers caller → Holds registers caller
