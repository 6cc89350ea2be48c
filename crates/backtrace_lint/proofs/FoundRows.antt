-- A pass over the entries of a section, by what is found in the rows of each.
use Rattle.std.proofs.Common.{◌≡◌, ℕ, List, [], ◌∷◌, ◌++◌, Option, Some, None, Result, Ok, refl, sym, ap, ◌∙◌}
use Rattle.std.specs.List.{cons_option}
use Rattle.std.proofs.lemmas.List.{append_assoc}
use Rattle.dwarf_constants.specs.declared.common.Vendor.{Vendor}
use Rattle.dwarf_constants.specs.declared.error.Error.{Error}
use Rattle.dwarf_frame_rows.specs.Effects.{Limits}
use Rattle.dwarf_frame_rows.specs.FrameSection.{FrameSection}
use Rattle.dwarf_frame_rows.specs.Row.{Row}
use Rattle.dwarf_frame_entries.specs.Entries.{AnyEntry, fde_of_entry}
use Rattle.backtrace_lint.specs.declared.row_lines.FailedFde.{FailedFde}
use Rattle.backtrace_lint.specs.RowFindings.{failed_among, failed_fdes, failed_read, unsaid_among, unsaid_read, unsaid_rows}
use Rattle.backtrace_lint.specs.RowViews.{AddsEntry, with_failed}
use Rattle.backtrace_lint.specs.declared.rows.RowFindings.{RowFindings}

with-others : (fdes others : List FailedFde) (failed : Option FailedFde) → fdes ++ cons_option failed others ≡ with_failed fdes failed ++ others
with-others fdes others None = refl
with-others fdes others (Some fde) = sym (append_assoc fdes (fde ∷ []) others)

module _ {Rule : Type 0} (limits : Limits) (vendor : Vendor) (rule_of : Row ℕ → Option Rule) (section : FrameSection) where
  -- What was found, if these of the section's entries are left.
  pub record Finding (found : RowFindings) (left : List (Result AnyEntry Error)) : Type 0 where
    pub unsaid : unsaid_rows limits vendor rule_of section ≡ found.unsaid.items ++ unsaid_among limits vendor rule_of section left
    pub failed : failed_fdes limits vendor rule_of section ≡ found.failed.items ++ failed_among limits vendor rule_of section left

  pub entry-found : (before after : RowFindings) (all left : List (Result AnyEntry Error)) (entry : AnyEntry) → all ≡ Ok entry ∷ left → AddsEntry limits vendor rule_of section entry before after
      → Finding before all → Finding after left
  entry-found before after all left entry is adds finding =
      let read = fde_of_entry section entry in
      let others = unsaid_among limits vendor rule_of section left in
      let failed_others = failed_among limits vendor rule_of section left in
      record {
        unsaid = finding.unsaid
            ∙ ap (λ (items : List (Result AnyEntry Error)). before.unsaid.items ++ unsaid_among limits vendor rule_of section items) is
            ∙ sym (append_assoc before.unsaid.items (unsaid_read limits vendor rule_of section read) others)
            ∙ ap (λ (starts : List ℕ). starts ++ others) (sym adds.unsaid);
        failed = finding.failed
            ∙ ap (λ (items : List (Result AnyEntry Error)). before.failed.items ++ failed_among limits vendor rule_of section items) is
            ∙ with-others before.failed.items failed_others (failed_read limits vendor rule_of section read)
            ∙ ap (λ (fdes : List FailedFde). fdes ++ failed_others) (sym adds.failed);
      }
