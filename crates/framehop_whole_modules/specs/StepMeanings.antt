-- What steps go by on each architecture, if rows may be taken whole.
use Rattle.framehop.specs.StepMeanings.{meanings_aarch64, meanings_x86_64}
use Rattle.framehop_loads.specs.StepLimits.{StepLimits}
use Rattle.framehop_loads.specs.UnwindData.{UnwindData}
use Rattle.framehop_registers.specs.declared.aarch64.unwindregs.UnwindRegsAarch64.{UnwindRegsAarch64}
use Rattle.framehop_registers.specs.declared.x86_64.unwindregs.UnwindRegsX86_64.{UnwindRegsX86_64}
use Rattle.framehop_rows.specs.RowAttemptAarch64 as aarch64_rows
use Rattle.framehop_rows.specs.RowAttemptX86_64 as x86_64_rows
use Rattle.framehop_rules.specs.declared.aarch64.unwind_rule.UnwindRuleAarch64.{UnwindRuleAarch64}
use Rattle.framehop_rules.specs.declared.x86_64.unwind_rule.UnwindRuleX86_64.{UnwindRuleX86_64}
use Rattle.framehop_unwinder.specs.Attempt.{Meanings}
use Rattle.framehop_whole_modules.specs.Attempts.{whole_within}
use Rattle.framehop_whole_steps.specs.Carrying as carrying
use Rattle.framehop_whole_steps.specs.declared.registers.WholeRegs.{WholeRegs}
use Rattle.framehop_whole_steps.specs.declared.rule.WholeRule.{WholeRule}

-- what steps on x86_64 go by
abbrev pub whole_x86_64 : StepLimits → Meanings UnwindData (WholeRule UnwindRuleX86_64) (WholeRegs UnwindRegsX86_64)
whole_x86_64 = whole_within carrying.x86_64 x86_64_rows.rows.vendor meanings_x86_64

-- what steps on aarch64 go by
abbrev pub whole_aarch64 : StepLimits → Meanings UnwindData (WholeRule UnwindRuleAarch64) (WholeRegs UnwindRegsAarch64)
whole_aarch64 = whole_within carrying.aarch64 aarch64_rows.rows.vendor meanings_aarch64
