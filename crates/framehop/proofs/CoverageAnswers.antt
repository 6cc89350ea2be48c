-- Steps by call frames, by how the address is covered.
use Rattle.std.proofs.Common.{◌≡◌, ℕ, ◌+◌, ◌^◌, ◌<◌, ◌≤◌, Bool, true, false, Option, Some, Result, Ok, Err, refl, sym, ap, ◌∙◌, cond, subst, arith}
use Rattle.std.specs.Prelude.{IfOk, IfErr, nat_lt}
use Rattle.std.proofs.lemmas.Bool.Decides.{nat_tests}
use Rattle.dwarf_constants.specs.declared.common.Vendor.{Vendor}
use Rattle.dwarf_constants.specs.declared.error.Error.{Error}
use Rattle.dwarf_frame_entries.specs.AddressLookups.{fde_for_address_skipping}
use Rattle.dwarf_frame_entries.specs.Entries.{Fde, fde_from_offset}
use Rattle.dwarf_frame_rows.specs.Effects.{Limits}
use Rattle.dwarf_frame_rows.specs.FrameSection.{FrameSection}
use Rattle.dwarf_frame_rows.specs.Row.{Row}
use Rattle.dwarf_readers.specs.Stretch.{Stretch}
use Rattle.framehop_registers.proofs.Laws.{over_none}
use Rattle.framehop_rules.specs.declared.unwind_result.UnwindResult.{UnwindResult}
use Rattle.framehop_rules.specs.declared.unwind_result.UnwindResult.TheVariants.{ExecRule}
use Rattle.framehop_errors.specs.declared.dwarf.DwarfUnwinderError.{DwarfUnwinderError}
use Rattle.framehop_errors.specs.declared.dwarf.DwarfUnwinderError.TheVariants.{FdeFromOffsetFailed, LookupAddressOverflow, OutOfMemory}
use Rattle.framehop_rows.specs.RowAttempt.{AnswersRow}
use Rattle.framehop_rows.specs.RowErrors.{IsOfRow}
use Rattle.framehop_rows.specs.RowMeanings.{RowMeanings}
use Rattle.framehop_index.specs.FdeLookups.{fde_scanned}
use Rattle.framehop.specs.Coverage.{Coverage, Covered, Uncovered, NoFde, NoAddress, by_entry, by_fde, by_known, by_read, covered_by_fde, covered_by_scan}
use Rattle.framehop.specs.DwarfViews.{AnswersCoverage}
use Rattle.framehop.proofs.TruthfulLookups.{fits-64}

-- anything holds of nothing
any-answer : {Rule : Type 0} (r : Result (UnwindResult Rule) DwarfUnwinderError) → IfOk r (λ _. Unit {0})
any-answer (Ok x) = tt
any-answer (Err e) = tt

module _ {Rule Registers S : Type 0} {step : S → ℕ → Result ℕ (Unit {0}) → S → Type 0} (m : RowMeanings Rule Registers) (meets : Row ℕ → Type 0) (first : Bool) (values : Option ℕ) where
  -- coverages that are the same
  pub covered-as : (old new : S) (before after : Registers) (result : Result (UnwindResult Rule) DwarfUnwinderError) (one other : Coverage) → one ≡ other
      → AnswersCoverage step old new before after result m meets first values one → AnswersCoverage step old new before after result m meets first values other
  covered-as old new before after result one other same answers = subst (λ (c : Coverage). AnswersCoverage step old new before after result m meets first values c) same answers

  -- results that are the same
  pub result-as : (old new : S) (before after : Registers) (one other : Result (UnwindResult Rule) DwarfUnwinderError) (coverage : Coverage) → one ≡ other
      → AnswersCoverage step old new before after one m meets first values coverage → AnswersCoverage step old new before after other m meets first values coverage
  result-as old new before after one other coverage same answers = subst (λ (r : Result (UnwindResult Rule) DwarfUnwinderError). AnswersCoverage step old new before after r m meets first values coverage) same answers

  -- by a row
  pub by-row : (old new : S) (before after : Registers) (result : Result (UnwindResult Rule) DwarfUnwinderError) (size : ℕ) (bytes : Stretch) (row : Row ℕ) (coverage : Coverage) → coverage ≡ Covered size bytes row
      → AnswersRow step old new before after result (m.row_attempt first values size bytes row) → IfErr result IsOfRow → (result ≡ Err OutOfMemory → meets row)
      → AnswersCoverage step old new before after result m meets first values coverage
  by-row old new before after result size bytes row coverage is answers errors expression =
      subst (λ (c : Coverage). AnswersCoverage step old new before after result m meets first values c) (sym is) (record {
        row = answers;
        answer = any-answer result;
        error = errors;
        expression = expression;
      })

  -- by the rule for code that no row covers
  pub by-uncovered : (state : S) (registers : Registers) (rule : Rule) (coverage : Coverage) → coverage ≡ Uncovered → rule ≡ m.uncovered
      → AnswersCoverage step state state registers registers (Ok (ExecRule rule)) m meets first values coverage
  by-uncovered state registers rule coverage is same =
      subst (λ (c : Coverage). AnswersCoverage step state state registers registers (Ok (ExecRule rule)) m meets first values c) (sym is)
      (subst (λ (r : Rule). AnswersCoverage step state state registers registers (Ok (ExecRule r)) m meets first values Uncovered) (sym same) (record {
        row = record { answer = over_none (λ words _. refl); rule = λ _. refl; registers = refl };
        answer = tt;
        error = tt;
        expression = λ h. cc;
      }))

  -- without an FDE
  pub by-no_fde : (state : S) (registers : Registers) (e : Error) (coverage : Coverage) → coverage ≡ NoFde e
      → AnswersCoverage step state state registers registers (Err (FdeFromOffsetFailed e)) m meets first values coverage
  by-no_fde state registers e coverage is =
      subst (λ (c : Coverage). AnswersCoverage step state state registers registers (Err (FdeFromOffsetFailed e)) m meets first values c) (sym is) (record {
        row = record { answer = over_none (λ words _. refl); rule = λ _. refl; registers = refl };
        answer = tt;
        error = refl;
        expression = λ h. cc;
      })

  -- without an address
  pub by-no_address : (state : S) (registers : Registers) (coverage : Coverage) → coverage ≡ NoAddress
      → AnswersCoverage step state state registers registers (Err LookupAddressOverflow) m meets first values coverage
  by-no_address state registers coverage is =
      subst (λ (c : Coverage). AnswersCoverage step state state registers registers (Err LookupAddressOverflow) m meets first values c) (sym is) (record {
        row = record { answer = over_none (λ words _. refl); rule = λ _. refl; registers = refl };
        answer = tt;
        error = refl;
        expression = λ h. cc;
      })

-- by an FDE that is known
pub known-there : (limits : Limits) (vendor own : Vendor) (section here : FrameSection) (address : ℕ) (fde : Fde) (known : Option Fde) → own ≡ vendor → here ≡ section → known ≡ Some fde
    → by_fde limits own here address fde ≡ by_known limits vendor section address known
known-there limits vendor own section here address fde known same read is = rw (same, read, is) refl

-- an address that has 64 bits
module _ (limits : Limits) (vendor : Vendor) (section : FrameSection) (base relative address : ℕ) (is : address ≡ base + relative) (fits : address < 2 ^ 64) where
  in-range : nat_lt (base + relative) (2 ^ 64) ≡ true
  in-range = fits-64 (subst (λ (n : ℕ). n < 2 ^ 64) is fits)

  -- by the FDE at an offset
  pub entry-there : (offset : ℕ) (read : Result Fde Error) → fde_from_offset section offset ≡ read → covered_by_fde limits vendor section base relative offset ≡ by_entry limits vendor section address read
  entry-there offset read at = rw (in-range, is, at) refl

  -- by a scan
  pub scan-there : (read : Result (Option Fde) Error) → fde_scanned (fde_for_address_skipping section address) ≡ read → covered_by_scan limits vendor section base relative ≡ by_read limits vendor section address read
  scan-there read at =
      ap (λ (b : Bool). cond b (by_read limits vendor section (base + relative) (fde_scanned (fde_for_address_skipping section (base + relative)))) NoAddress) in-range
      ∙ ap (λ (n : ℕ). by_read limits vendor section n (fde_scanned (fde_for_address_skipping section n))) (sym is)
      ∙ ap (by_read limits vendor section address) at

-- and one that hasn't
module _ (limits : Limits) (vendor : Vendor) (section : FrameSection) (base relative : ℕ) (high : 2 ^ 64 ≤ base + relative) where
  out-of-range : nat_lt (base + relative) (2 ^ 64) ≡ false
  out-of-range = grind (arith, nat_tests)

  pub scan-nowhere : covered_by_scan limits vendor section base relative ≡ NoAddress
  scan-nowhere = rw out-of-range refl

  pub entry-nowhere : (offset : ℕ) → covered_by_fde limits vendor section base relative offset ≡ NoAddress
  entry-nowhere offset = rw out-of-range refl
