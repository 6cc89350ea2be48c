-- What steps go by on an architecture, by what its traits say.
use Rattle.std.specs.Prelude.{ℕ, Bool}
use Rattle.framehop_compact.specs.CompactMeanings.{CompactMeanings}
use Rattle.framehop_pe.specs.PeAttempts.{PeAttempt}
use Rattle.framehop_pe_codes.specs.Sections.{PeFile}
use Rattle.framehop_registers.specs.Callback.{Words}
use Rattle.framehop_rows.specs.RowMeanings.{RowMeanings}
use Rattle.framehop_rules.specs.Outcome.{Caller, Outcome}
use Rattle.framehop_unwinder.specs.Attempt.{Meanings}
use Rattle.framehop.specs.Attempts.{format_meanings}
use Rattle.framehop_code_ways.specs.Callers.{FirstRule}
use Rattle.framehop_loads.specs.StepLimits.{StepLimits}
use Rattle.framehop.specs.StepMeanings.{meanings_by}
use Rattle.framehop.specs.TableMethods.{table_methods}
use Rattle.framehop_loads.specs.UnwindData.{UnwindData}

-- what its rules mean, the rule that is executed if no module says anything, what rows mean, what the unwind data of PE files and
-- compact unwind info say, and the rules of ways out of functions, within limits
abbrev pub meanings_with : {Rule Registers : Type 0} → (Rule → Bool → Registers → Words → Outcome (Caller Registers)) → Rule
    → RowMeanings Rule Registers → (PeFile → ℕ → Bool → PeAttempt Rule Registers) → CompactMeanings Rule → FirstRule Rule → StepLimits
    → Meanings UnwindData Rule Registers
meanings_with meaning fallback rows pe compact ways limits =
    meanings_by meaning fallback (format_meanings rows (table_methods pe compact) ways) limits
