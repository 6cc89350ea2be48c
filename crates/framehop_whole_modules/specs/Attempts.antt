-- What a module says of a frame if its rows may be taken whole.
use Rattle.std.specs.Prelude.{ℕ, Bool, Option, Some, None, option_map}
use Rattle.dwarf_constants.specs.declared.common.Vendor.{Vendor}
use Rattle.dwarf_frame_rows.specs.Effects.{Limits}
use Rattle.framehop.specs.ArchMeanings.{meanings_with}
use Rattle.framehop_code_ways.specs.Callers.{FirstRule}
use Rattle.framehop_compact.specs.CompactMeanings.{CompactMeanings}
use Rattle.framehop_loads.specs.StepLimits.{StepLimits}
use Rattle.framehop_loads.specs.UnwindData.{UnwindData}
use Rattle.framehop_pe.specs.PeAttempts.{PeAttempt}
use Rattle.framehop_pe_codes.specs.Sections.{PeFile}
use Rattle.framehop_registers.specs.Callback.{Words}
use Rattle.framehop_rows.specs.RowMeanings.{RowMeanings}
use Rattle.framehop_rules.specs.Outcome.{Caller, Outcome}
use Rattle.framehop_unwinder.specs.Attempt.{Attempt, Says, Evaluates, SaysNothing, Meanings, meanings_of}
use Rattle.framehop_whole_modules.specs.ModuleRows.{row_at}
use Rattle.framehop_whole_steps.specs.Attempts.{attempt_by_row}
use Rattle.framehop_whole_steps.specs.Carrying.{Carrying}
use Rattle.framehop_whole_steps.specs.FoundRows.{FoundRow}
use Rattle.framehop_whole_steps.specs.Rules.{meaning_by, plain_caller}
use Rattle.framehop_whole_steps.specs.declared.registers.WholeRegs.{WholeRegs}
use Rattle.framehop_whole_steps.specs.declared.rule.WholeRule.{WholeRule}
use Rattle.framehop_whole_steps.specs.declared.rule.WholeRule.TheVariants as whole

-- what a module says that takes no row whole
abbrev pub plain_attempt : {Rule Registers : Type 0} → Attempt Rule Registers → Attempt (WholeRule Rule) (WholeRegs Registers)
plain_attempt (Says rule) = Says (whole.Plain rule)
plain_attempt (Evaluates caller) = Evaluates (λ registers words. option_map plain_caller (caller registers.regs words))
plain_attempt SaysNothing = SaysNothing

-- by a row that is taken whole, or else by what is said without it
abbrev pub attempt_with : {Rule Registers : Type 0} → Carrying Registers → Bool → Option FoundRow → Attempt Rule Registers
    → Attempt (WholeRule Rule) (WholeRegs Registers)
attempt_with c first (Some found) plain = attempt_by_row c first found
attempt_with c first None plain = plain_attempt plain

-- what steps go by, by what they go by without whole rows
abbrev pub whole_meanings : {Rule Registers : Type 0} → Carrying Registers → Limits → Vendor → Meanings UnwindData Rule Registers
    → Meanings UnwindData (WholeRule Rule) (WholeRegs Registers)
whole_meanings c limits vendor m =
    meanings_of (meaning_by m.meaning) (whole.Plain m.fallback)
    (λ given relative first. attempt_with c first (row_at limits vendor given relative) (m.attempt given relative first))

-- .. within limits
abbrev pub whole_within : {Rule Registers : Type 0} → Carrying Registers → Vendor → (StepLimits → Meanings UnwindData Rule Registers) → StepLimits
    → Meanings UnwindData (WholeRule Rule) (WholeRegs Registers)
whole_within c vendor meanings limits = whole_meanings c limits.rows vendor (meanings limits)

-- .. by what an architecture's traits say
abbrev pub whole_with : {Rule Registers : Type 0} → Carrying Registers → (Rule → Bool → Registers → Words → Outcome (Caller Registers)) → Rule
    → RowMeanings Rule Registers → (PeFile → ℕ → Bool → PeAttempt Rule Registers) → CompactMeanings Rule → FirstRule Rule → StepLimits
    → Meanings UnwindData (WholeRule Rule) (WholeRegs Registers)
whole_with c meaning fallback rows pe compact ways =
    whole_within c rows.vendor (meanings_with meaning fallback rows pe compact ways)
