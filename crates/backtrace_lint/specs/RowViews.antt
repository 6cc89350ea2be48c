-- What is found in rows, as contracts see it.
use Rattle.std.specs.Prelude.{◌≡◌, ℕ, List, [], ◌∷◌, ◌++◌, Option, Some, None, Vec}
use Rattle.std.specs.Global.{Global}
use Rattle.dwarf_constants.specs.declared.common.Vendor.{Vendor}
use Rattle.dwarf_constants.specs.declared.error.Error.{Error}
use Rattle.dwarf_readers.specs.Stretch.{Stretch}
use Rattle.dwarf_frame_rows.specs.Effects.{Limits}
use Rattle.dwarf_frame_rows.specs.FrameSection.{FrameSection}
use Rattle.dwarf_frame_rows.specs.Row.{Row}
use Rattle.dwarf_frame_rows.specs.declared.row.UnwindTableRow.{UnwindTableRow}
use Rattle.dwarf_frame_instructions.specs.Programs.{RowList}
use Rattle.dwarf_frame_entries.specs.Entries.{AnyEntry, Fde, PartialFde, fde_of_entry}
use Rattle.dwarf_frame_entries.specs.EntryPrograms.{fde_rows}
use Rattle.dwarf_frame_instructions.specs.ProgramRows.{rows_left}
use Rattle.dwarf_frame_instructions.specs.declared.rows.ProgramRows.{ProgramRows}
use Rattle.backtrace_lint.specs.declared.row_lines.FailedFde.{FailedFde}
use Rattle.dwarf_frame_entries.specs.declared.entries.Entry.TheVariants as which
use Rattle.elf_files.specs.declared.header.Machine.{Machine}
use Rattle.framehop_rows.specs.RowMeanings.{RowMeanings}
use Rattle.backtrace_lint.specs.FileRows.{failed_on, unsaid_on}
use Rattle.backtrace_lint.specs.RowFindings.{failed_fdes, failed_of, failed_read, unsaid_of, unsaid_read, unsaid_rows, unsaid_starts}
use Rattle.backtrace_lint.specs.declared.rows.RowFindings.{RowFindings}

-- Starts were added of those rows that no rule says, and this is the error that ends the rows, if one does.
pub record AddsRows {Rule : Type 0} (rule_of : Row ℕ → Option Rule) (rows : RowList ℕ) (old new : Vec ℕ Global) (refusal : Option Error) : Type 0 where
  pub starts : new.items ≡ old.items ++ unsaid_starts rule_of rows
  pub ends : refusal ≡ rows.refusal

-- .. of the rows that a program has left
abbrev pub Adds : {R S E O L K Rule : Type 0} → (R → Stretch) → (limit : ℕ) → (O → ℕ) → (K → List (UnwindTableRow O L)) → Limits
    → (Row ℕ → Option Rule) → ProgramRows R S E O L K → (old new : Vec ℕ Global) → Option Error → Type 0
Adds stretch limit number items limits rule_of rows old new =
    AddsRows rule_of (rows_left stretch limit number items limits rows) old new

-- These are the findings in the rows of a section of this machine.
pub record AreOn (machine : Machine) (section : FrameSection) (found : RowFindings) : Type 0 where
  pub unsaid : found.unsaid.items ≡ unsaid_on machine section
  pub failed : found.failed.items ≡ failed_on machine section

-- FDEs with one more, if there is one
abbrev pub with_failed : List FailedFde → Option FailedFde → List FailedFde
with_failed fdes None = fdes
with_failed fdes (Some fde) = fdes ++ fde ∷ []

module _ {Rule : Type 0} (limits : Limits) (vendor : Vendor) (rule_of : Row ℕ → Option Rule) (section : FrameSection) where
  -- .. of the rows of an FDE
  abbrev pub AddsOf : Fde → (old new : Vec ℕ Global) → Option Error → Type 0
  AddsOf fde old new = AddsRows rule_of (fde_rows limits section vendor fde) old new

  -- What is found of an FDE was added.
  pub record AddsFde (fde : Fde) (old new : RowFindings) : Type 0 where
    pub unsaid : new.unsaid.items ≡ old.unsaid.items ++ unsaid_of limits vendor rule_of section fde
    pub failed : new.failed.items ≡ with_failed old.failed.items (failed_of limits vendor rule_of section fde)

  -- What is found of an entry was added.
  pub record AddsEntry (entry : AnyEntry) (old new : RowFindings) : Type 0 where
    pub unsaid : new.unsaid.items ≡ old.unsaid.items ++ unsaid_read limits vendor rule_of section (fde_of_entry section entry)
    pub failed : new.failed.items ≡ with_failed old.failed.items (failed_read limits vendor rule_of section (fde_of_entry section entry))

  -- This is what is found in a section.
  pub record FindsRows (found : RowFindings) : Type 0 where
    pub unsaid : found.unsaid.items ≡ unsaid_rows limits vendor rule_of section
    pub failed : found.failed.items ≡ failed_fdes limits vendor rule_of section

-- What is found of an entry that is an FDE was added, on an architecture.
abbrev pub AddsPart : {Rule Registers : Type 0} → Limits → RowMeanings Rule Registers → (Row ℕ → Option Rule) → FrameSection → PartialFde
    → (old new : RowFindings) → Type 0
AddsPart limits m rule_of section part old new = AddsEntry limits m.vendor rule_of section (which.Fde part) old new
