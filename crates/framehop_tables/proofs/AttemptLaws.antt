-- The attempt by what a table says is that by the index.
use Rattle.std.proofs.Common.{◌≡◌, ℕ, ◌+◌, ◌^◌, Bool, Option, Some, None, Result, Ok, Err, refl, sym, ap, ◌∙◌}
use Rattle.std.specs.Prelude.{option_and_then, nat_lt}
use Rattle.dwarf_constants.specs.declared.error.Error.{Error}
use Rattle.dwarf_readers.specs.Stretch.{Stretch}
use Rattle.dwarf_frame_rows.specs.Row.{Row}
use Rattle.dwarf_frame_entries.specs.Entries.{Fde, fde_from_offset}
use Rattle.dwarf_frame_entries.specs.EntryPrograms.{fde_row}
use Rattle.list_laws.proofs.Laws.{by_case}
use Rattle.framehop_index.specs.Lookups.{found_by_index}
use Rattle.framehop_rows.specs.RowAttempt.{RowAttempt, Translates, Gives, rule_of_row}
use Rattle.framehop_rows.specs.RowMeanings.{RowMeanings}
use Rattle.framehop_tables.specs.Covered.{Tabulated, by_entry, by_offset, by_row, by_rule, covered_at, tabulated}
use Rattle.framehop_tables.specs.IndexAttempts.{AttemptsByIndex, Frame, attempt_by_entry, attempt_by_index, attempt_by_offset, attempt_by_row, attempt_by_table}

-- an attempt with a rule is that by the rule
translates : {Rule Registers : Type 0} (attempt : RowAttempt Rule Registers) (rule : Rule) → rule_of_row attempt ≡ Some rule → attempt ≡ Translates rule
translates (Translates other) rule is = let same : other ≡ rule = cc in ap (λ r. Translates r) same
translates (Gives caller) rule is = cc

module _ {Rule Registers : Type 0} (m : RowMeanings Rule Registers) (rule_of : Row ℕ → Option Rule)
    (says : (first : Bool) (values : Option ℕ) (address_size : ℕ) (section : Stretch) (row : Row ℕ) → rule_of_row (m.row_attempt first values address_size section row) ≡ rule_of row) (frame : Frame) where
  abbrev Of : Tabulated Rule
  Of = tabulated m rule_of frame.limits m.vendor frame.base frame.section

  abbrev Address : ℕ
  Address = frame.base + frame.relative

  same-row : (offset : ℕ) (fde : Fde) (row : Result (Row ℕ) Error) (found : Option (RowAttempt Rule Registers)) → attempt_by_offset m frame offset ≡ found → found ≡ Some (attempt_by_row m frame fde row)
      → attempt_by_table m frame (by_row Of.rules offset row) ≡ Some (attempt_by_row m frame fde row)
  same-row offset fde (Err e) found at is = refl
  same-row offset fde (Ok row) found at is = by (rule_of row) refl
    where
      by : (o : Option Rule) → rule_of row ≡ o → attempt_by_table m frame (by_rule offset o) ≡ Some (attempt_by_row m frame fde (Ok row))
      by (Some rule) said = ap (λ a. Some a) (sym (translates (attempt_by_row m frame fde (Ok row)) rule (says frame.first frame.values fde.cie.address_size frame.section.within.bytes row ∙ said)))
      by None said = at ∙ is

  same-entry : (offset : ℕ) (entry : Result Fde Error) → attempt_by_offset m frame offset ≡ attempt_by_entry m frame entry
      → attempt_by_table m frame (by_entry Of offset entry Address) ≡ attempt_by_entry m frame entry
  same-entry offset (Err e) at = refl
  same-entry offset (Ok fde) at = same-row offset fde (fde_row frame.limits frame.section m.vendor fde Address) (attempt_by_entry m frame (Ok fde)) at refl

  same-offset : (found : Option ℕ) → attempt_by_table m frame (by_offset Of frame.relative found) ≡ option_and_then (attempt_by_offset m frame) found
  same-offset None = refl
  same-offset (Some offset) =
      by_case (nat_lt Address (2 ^ 64))
      (λ is. rw is (same-entry offset (fde_from_offset frame.section offset) (rw is refl)))
      (λ is. rw is refl)

  attempts-alike : attempt_by_table m frame (covered_at Of frame.relative) ≡ attempt_by_index m frame
  unfolding covered_at
  attempts-alike = same-offset (found_by_index frame.section frame.base frame.relative)

pub attempts-by-index : {Rule Registers : Type 0} (m : RowMeanings Rule Registers) (rule_of : Row ℕ → Option Rule)
    → ((first : Bool) (values : Option ℕ) (address_size : ℕ) (section : Stretch) (row : Row ℕ) → rule_of_row (m.row_attempt first values address_size section row) ≡ rule_of row)
    → AttemptsByIndex m rule_of
attempts-by-index m rule_of says frame = attempts-alike m rule_of says frame
