-- What steps go by on each architecture, if modules are unwound by their sections.
use Rattle.std.specs.Prelude.{ℕ, Bool, List}
use Rattle.framehop_registers.specs.Callback.{Words}
use Rattle.framehop_registers.specs.declared.aarch64.unwindregs.UnwindRegsAarch64.{UnwindRegsAarch64}
use Rattle.framehop_registers.specs.declared.x86_64.unwindregs.UnwindRegsX86_64.{UnwindRegsX86_64}
use Rattle.framehop_rules.specs.Outcome.{Outcome, Caller}
use Rattle.framehop_rules.specs.RuleMeaning as x86_64
use Rattle.framehop_rules.specs.RuleMeaningAarch64 as aarch64
use Rattle.framehop_rules.specs.declared.aarch64.unwind_rule.UnwindRuleAarch64.{UnwindRuleAarch64}
use Rattle.framehop_rules.specs.declared.aarch64.unwind_rule.UnwindRuleAarch64.TheVariants as aarch64_rule
use Rattle.framehop_rules.specs.declared.x86_64.unwind_rule.UnwindRuleX86_64.{UnwindRuleX86_64}
use Rattle.framehop_rules.specs.declared.x86_64.unwind_rule.UnwindRuleX86_64.TheVariants as x86_64_rule
use Rattle.framehop_unwinder.specs.Attempt.{Meanings, meanings_of}
use Rattle.framehop_unwinder.specs.Judge.{judge}
use Rattle.framehop_unwinder.specs.Modules.{Loaded}
use Rattle.framehop_unwinder.specs.Walk.{Judgment}
use Rattle.framehop_rows.specs.RowAttemptAarch64 as aarch64_rows
use Rattle.framehop_rows.specs.RowAttemptX86_64 as x86_64_rows
use Rattle.framehop_errors.specs.declared.pe.PeUnwinderError.TheVariants.{Aarch64Unsupported}
use Rattle.framehop_compact.specs.Unwound.{compact_x86_64}
use Rattle.framehop_compact.specs.UnwoundAarch64.{compact_aarch64}
use Rattle.framehop_pe.specs.PeAttempts.{Refuses}
use Rattle.framehop_pe.specs.PeSteps.{attempt_x86_64}
use Rattle.framehop_code_ways.specs.FirstRules as x86_64_ways
use Rattle.framehop_code_ways.specs.FirstRulesAarch64 as aarch64_ways
use Rattle.framehop.specs.Attempts.{AsksExpression, FormatMeanings, attempt_by_format, format_meanings}
use Rattle.framehop.specs.TableMethods.{table_methods}
use Rattle.framehop_loads.specs.StepLimits.{StepLimits}
use Rattle.framehop_loads.specs.UnwindData.{UnwindData}

-- what steps go by: the meanings of rules, the rule that is executed if no module says anything, and what formats mean
abbrev pub meanings_by : {Rule Registers : Type 0} → (Rule → Bool → Registers → Words → Outcome (Caller Registers)) → Rule
    → FormatMeanings Rule Registers → StepLimits → Meanings UnwindData Rule Registers
meanings_by meaning fallback formats limits = meanings_of meaning fallback (attempt_by_format formats limits)

-- what formats mean on x86_64
abbrev pub formats_x86_64 : FormatMeanings UnwindRuleX86_64 UnwindRegsX86_64
formats_x86_64 = format_meanings x86_64_rows.rows (table_methods attempt_x86_64 compact_x86_64) x86_64_ways.first_rule

-- what they mean on aarch64, where those of PE files aren't read
abbrev pub formats_aarch64 : FormatMeanings UnwindRuleAarch64 UnwindRegsAarch64
formats_aarch64 =
    format_meanings aarch64_rows.rows (table_methods (λ file relative first. Refuses Aarch64Unsupported) compact_aarch64) aarch64_ways.first_rule

-- what steps on x86_64 go by
abbrev pub meanings_x86_64 : StepLimits → Meanings UnwindData UnwindRuleX86_64 UnwindRegsX86_64
meanings_x86_64 limits = meanings_by x86_64.rule_meaning x86_64_rule.UseFramePointer formats_x86_64 limits

-- what steps on aarch64 go by
abbrev pub meanings_aarch64 : StepLimits → Meanings UnwindData UnwindRuleAarch64 UnwindRegsAarch64
meanings_aarch64 limits = meanings_by aarch64.rule_meaning aarch64_rule.UseFramePointer formats_aarch64 limits

-- which modules' data asks for memory at a relative address on x86_64: that by which a row evaluates an expression
abbrev pub asks_x86_64 : StepLimits → UnwindData → ℕ → Bool → Type 0
asks_x86_64 limits = AsksExpression x86_64_rows.MeetsExpression formats_x86_64 limits

-- the same on aarch64
abbrev pub asks_aarch64 : StepLimits → UnwindData → ℕ → Bool → Type 0
asks_aarch64 limits = AsksExpression aarch64_rows.MeetsExpression formats_aarch64 limits

-- the steps on aarch64, over modules that are unwound by their sections
abbrev pub steps_aarch64 : StepLimits → List (Loaded UnwindData) → Judgment UnwindRegsAarch64
steps_aarch64 limits modules = judge (meanings_aarch64 limits) modules
