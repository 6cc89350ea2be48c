-- Steps by what a table says of an address: those by the index.
use Rattle.std.proofs.Common.{◌≡◌, ℕ, ◌+◌, ◌^◌, Bool, Option, Some, None, Result, Ok, Err, refl, sym, subst, ap, ◌∙◌}
use Rattle.std.specs.Prelude.{nat_lt, if◌then◌else◌}
use Rattle.dwarf_constants.specs.declared.error.Error.{Error}
use Rattle.dwarf_readers.specs.Stretch.{Stretch}
use Rattle.dwarf_frame_rows.specs.FrameSection.{FrameSection}
use Rattle.dwarf_frame_rows.specs.Row.{Row}
use Rattle.dwarf_frame_entries.specs.Entries.{Fde, fde_from_offset}
use Rattle.dwarf_frame_entries.specs.EntryPrograms.{fde_row}
use Rattle.list_laws.proofs.Laws.{by_case}
use Rattle.framehop_errors.specs.declared.dwarf.DwarfUnwinderError.TheVariants.{LookupAddressOverflow}
use Rattle.framehop_errors.specs.declared.unwinder.UnwinderError.TheVariants.{Dwarf, DwarfCfiIndexCouldNotFindAddress}
use Rattle.framehop_index.specs.FdeLookups.{ByIndex, FoundFde, Lookup, PlacedFrames, fde_by, fde_found, fde_read, section_of}
use Rattle.framehop_index.specs.Lookups.{found_by_index}
use Rattle.framehop_rows.specs.RowAttempt.{RowAttempt, Translates, Gives, rule_of_row}
use Rattle.framehop_rows.specs.RowMeanings.{RowMeanings}
use Rattle.framehop_rules.specs.declared.unwind_result.UnwindResult.TheVariants.{ExecRule}
use Rattle.framehop_tables.specs.Covered as table
use Rattle.framehop_tables.specs.declared.covered.Covered.{Covered}
use Rattle.framehop_tables.specs.declared.covered.Covered.TheVariants as covered
use Rattle.framehop_unwinder.specs.Attempt.{Attempt, Says, SaysNothing}
use Rattle.framehop_unwinder.specs.declared.unwinding.UnwindFailure.TheVariants as failure
use Rattle.framehop.specs.Attempts.{attempt_by_method}
use Rattle.framehop_loads.specs.StepLimits.{StepLimits}
use Rattle.framehop.specs.MethodViews.{AnswersMethod}
use Rattle.framehop.specs.Methods.{Method, UsesFde, method_by_frames, method_found}
use Rattle.framehop.proofs.MethodAnswers.{nothing-said}
use Rattle.framehop.proofs.RowTrials.{answers-by_rule}

-- an attempt with a rule is that by the rule
translates : {Rule Registers : Type 0} (attempt : RowAttempt Rule Registers) (rule : Rule) → rule_of_row attempt ≡ Some rule → attempt ≡ Translates rule
translates (Translates other) rule is = let same : other ≡ rule = cc in ap (λ r. Translates r) same
translates (Gives caller) rule is = cc

module _ {Rule Registers : Type 0} (m : RowMeanings Rule Registers) (rule_of : Row ℕ → Option Rule)
    (says : (first : Bool) (values : Option ℕ) (address_size : ℕ) (section : Stretch) (row : Row ℕ) → rule_of_row (m.row_attempt first values address_size section row) ≡ rule_of row)
    (limits : StepLimits) (frames : PlacedFrames) (by_index : frames.lookup ≡ ByIndex) (relative : ℕ) (first : Bool) where
  abbrev section : FrameSection
  section = section_of frames

  abbrev Of : table.Tabulated Rule
  Of = table.tabulated m rule_of limits.rows m.vendor frames.base_svma section

  abbrev Address : ℕ
  Address = frames.base_svma + relative

  -- the attempt by a method
  abbrev By : Method Rule Registers → Attempt Rule Registers
  By method = attempt_by_method m limits first method

  -- what a table says is what an attempt says, unless a row has to be evaluated
  abbrev Agrees : Covered Rule → Attempt Rule Registers → Type 0
  Agrees covered.Nothing attempt = attempt ≡ SaysNothing
  Agrees (covered.Says rule) attempt = attempt ≡ Says rule
  Agrees (covered.Evaluates offset) attempt = Unit {0}

  by-row : (offset : ℕ) (fde : Fde) (row : Result (Row ℕ) Error) → fde_row limits.rows section m.vendor fde Address ≡ row
      → Agrees (table.by_row Of.rules offset row) (By (UsesFde section Address (Some fde)))
  by-row offset fde (Err e) is = rw is refl
  by-row offset fde (Ok row) is = by (rule_of row) refl
    where
      by : (o : Option Rule) → rule_of row ≡ o → Agrees (table.by_rule offset o) (By (UsesFde section Address (Some fde)))
      by (Some rule) ruled = rw (is, translates (m.row_attempt first limits.values fde.cie.address_size section.within.bytes row) rule (says first limits.values fde.cie.address_size section.within.bytes row ∙ ruled)) refl
      by None ruled = tt

  by-entry : (offset : ℕ) (entry : Result Fde Error) → Agrees (table.by_entry Of offset entry Address) (By (method_found section Address (fde_read entry)))
  by-entry offset (Err e) = refl
  by-entry offset (Ok fde) = by-row offset fde (fde_row limits.rows section m.vendor fde Address) refl

  -- by the offset that the index has, if it has one
  abbrev found : Option ℕ → FoundFde
  found o = if nat_lt Address (2 ^ 64) then fde_found section DwarfCfiIndexCouldNotFindAddress o else Err (Dwarf LookupAddressOverflow)

  by-offset : (o : Option ℕ) → Agrees (table.by_offset Of relative o) (By (method_found section Address (found o)))
  by-offset None = by_case (nat_lt Address (2 ^ 64)) (λ fits. rw fits refl) (λ over. rw over refl)
  by-offset (Some offset) =
      by_case (nat_lt Address (2 ^ 64))
      (λ fits. (let same = by-entry offset (fde_from_offset section offset) in rw fits same))
      (λ over. rw over refl)

  agrees : Agrees (table.covered_at Of relative) (By (method_by_frames frames relative))
  unfolding table.covered_at
  agrees =
      subst (λ (l : Lookup). Agrees (table.by_offset Of relative (found_by_index section frames.base_svma relative))
      (By (method_found section Address (if nat_lt Address (2 ^ 64) then fde_by l frames.bases section frames.base_svma relative else Err (Dwarf LookupAddressOverflow)))))
      (sym by_index) (by-offset (found_by_index section frames.base_svma relative))

  module _ (known : Covered Rule) (is : known ≡ table.covered_at Of relative) {S : Type 0} {step : S → ℕ → Result ℕ (Unit {0}) → S → Type 0} (meets : Row ℕ → Type 0) (takes : Bool) (state : S) (registers : Registers) where
    -- by a rule
    pub says-answers : (rule : Rule) → known ≡ covered.Says rule
        → AnswersMethod step state state registers registers (Ok (ExecRule rule)) m meets limits takes first (method_by_frames frames relative)
    says-answers rule ruled = record {
      answer = answers-by_rule state registers rule _ (subst (λ (k : Covered Rule). Agrees k (By (method_by_frames frames relative))) (sym is ∙ ruled) agrees);
      memory = record { never = λ none. refl; asked = λ wanted. cc };
    }

    -- by nothing
    pub nothing-answers : known ≡ covered.Nothing
        → AnswersMethod step state state registers registers (Err failure.OfModule) m meets limits takes first (method_by_frames frames relative)
    nothing-answers none =
        nothing-said m meets limits takes first state registers (method_by_frames frames relative) failure.OfModule refl
        (subst (λ (k : Covered Rule). Agrees k (By (method_by_frames frames relative))) (sym is ∙ none) agrees)
