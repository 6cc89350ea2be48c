-- What modules say whose loads don't ask for whole rows.
use Rattle.std.specs.Prelude.{◌≡◌, ℕ, Bool}
use Rattle.framehop.specs.ArchMeanings.{meanings_with}
use Rattle.framehop_code_ways.specs.Callers.{FirstRule}
use Rattle.framehop_compact.specs.CompactMeanings.{CompactMeanings}
use Rattle.framehop_loads.specs.StepLimits.{StepLimits}
use Rattle.framehop_loads.specs.UnwindData.{UnwindData}
use Rattle.framehop_loads.specs.declared.load_options.Rows.TheVariants.{Published}
use Rattle.framehop_pe.specs.PeAttempts.{PeAttempt}
use Rattle.framehop_pe_codes.specs.Sections.{PeFile}
use Rattle.framehop_registers.specs.Callback.{Words}
use Rattle.framehop_rows.specs.RowMeanings.{RowMeanings}
use Rattle.framehop_rules.specs.Outcome.{Caller, Outcome}
use Rattle.framehop_whole_modules.specs.Attempts.{plain_attempt, whole_with}
use Rattle.framehop_whole_steps.specs.Carrying.{Carrying}

-- Such a module says exactly what it says without whole rows, by what an architecture's traits say.
abbrev pub SaysAsWithout : {Rule Registers : Type 0} → Carrying Registers → (Rule → Bool → Registers → Words → Outcome (Caller Registers)) → Rule
    → RowMeanings Rule Registers → (PeFile → ℕ → Bool → PeAttempt Rule Registers) → CompactMeanings Rule → FirstRule Rule → Type 0
SaysAsWithout c meaning fallback rows pe compact ways =
    (limits : StepLimits) (given : UnwindData) (relative : ℕ) (first : Bool) → given.rows ≡ Published
    → (whole_with c meaning fallback rows pe compact ways limits).attempt given relative first
    ≡ plain_attempt ((meanings_with meaning fallback rows pe compact ways limits).attempt given relative first)
