-- What commands do to a session on each architecture, if its modules are unwound by their sections, within the limits of a policy.
use Rattle.std.specs.Prelude.{ℕ, Bool, List, Result}
use Rattle.framehop_histories.specs.Performs.{Performs}
use Rattle.framehop_histories.specs.declared.commands.Answer.{Answer}
use Rattle.framehop_histories.specs.declared.commands.Command.{Command}
use Rattle.framehop_registers.specs.declared.aarch64.unwindregs.UnwindRegsAarch64.{UnwindRegsAarch64}
use Rattle.framehop_registers.specs.declared.x86_64.unwindregs.UnwindRegsX86_64.{UnwindRegsX86_64}
use Rattle.framehop_rules.specs.declared.aarch64.unwind_rule.UnwindRuleAarch64.{UnwindRuleAarch64}
use Rattle.framehop_rules.specs.declared.x86_64.unwind_rule.UnwindRuleX86_64.{UnwindRuleX86_64}
use Rattle.framehop_unwinder.specs.State.{SessionState}
use Rattle.framehop_loads.specs.StepLimits.{StepLimits}
use Rattle.framehop.specs.StepMeanings.{asks_aarch64, asks_x86_64, meanings_aarch64, meanings_x86_64}
use Rattle.framehop_loads.specs.UnwindData.{UnwindData}

-- on x86_64
abbrev pub PerformsX86_64 : {Context Callback : Type 0} → (Callback → ℕ → Result ℕ (Unit {0}) → Callback → Type 0) → Bool → StepLimits
    → SessionState UnwindData UnwindRuleX86_64 → List (Command UnwindData Context UnwindRegsX86_64 Callback)
    → SessionState UnwindData UnwindRuleX86_64 → List (Answer UnwindRegsX86_64) → Type 0
PerformsX86_64 step takes_memory limits old commands new answers =
    Performs step takes_memory (asks_x86_64 limits) (meanings_x86_64 limits) old commands new answers

-- on aarch64
abbrev pub PerformsAarch64 : {Context Callback : Type 0} → (Callback → ℕ → Result ℕ (Unit {0}) → Callback → Type 0) → Bool → StepLimits
    → SessionState UnwindData UnwindRuleAarch64 → List (Command UnwindData Context UnwindRegsAarch64 Callback)
    → SessionState UnwindData UnwindRuleAarch64 → List (Answer UnwindRegsAarch64) → Type 0
PerformsAarch64 step takes_memory limits old commands new answers =
    Performs step takes_memory (asks_aarch64 limits) (meanings_aarch64 limits) old commands new answers
