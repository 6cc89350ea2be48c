-- How call frame information covers an address, and the attempt at a step from there, on any architecture.
use Rattle.std.specs.Prelude.{◌≡◌, ℕ, ◌+◌, ◌^◌, Bool, Option, Some, None, Result, Ok, Err, nat_lt, if◌then◌else◌}
use Rattle.dwarf_constants.specs.declared.common.Vendor.{Vendor}
use Rattle.dwarf_constants.specs.declared.error.Error.{Error}
use Rattle.dwarf_readers.specs.Stretch.{Stretch}
use Rattle.dwarf_frame_rows.specs.Effects.{Limits}
use Rattle.dwarf_frame_rows.specs.Row.{Row}
use Rattle.dwarf_frame_rows.specs.FrameSection.{FrameSection}
use Rattle.dwarf_frame_entries.specs.AddressLookups.{fde_for_address_skipping}
use Rattle.dwarf_frame_entries.specs.Entries.{Fde, fde_from_offset}
use Rattle.dwarf_frame_entries.specs.EntryPrograms.{fde_row}
use Rattle.framehop_unwinder.specs.Attempt.{Attempt, Says, SaysNothing}
use Rattle.framehop_rows.specs.RowAttempt.{RowAttempt, Translates, Gives}
use Rattle.framehop_rows.specs.RowErrors.{IsOfRow}
use Rattle.framehop_rows.specs.RowMeanings.{RowMeanings}
use Rattle.framehop_errors.specs.declared.dwarf.DwarfUnwinderError.{DwarfUnwinderError}
use Rattle.framehop_errors.specs.declared.dwarf.DwarfUnwinderError.TheVariants.{FdeFromOffsetFailed, LookupAddressOverflow}
use Rattle.framehop_index.specs.FdeLookups.{fde_scanned}
use Rattle.framehop.specs.RowAttempts.{attempt_by_row}

-- How an address is covered: by a row of an FDE, in a section of these bytes and with addresses of this size in bytes; by no row or
-- no FDE; or it isn't known by which, since the FDE can't be read, or since the address doesn't fit 64 bits.
pub data Coverage : Type 0 where
  Covered : (address_size : ℕ) → (section : Stretch) → Row ℕ → Coverage
  Uncovered : Coverage
  NoFde : Error → Coverage
  NoAddress : Coverage

-- by a row of an FDE, or by none if there was an error
abbrev pub by_fde_row : (address_size : ℕ) → (section : Stretch) → Result (Row ℕ) Error → Coverage
by_fde_row address_size section (Ok row) = Covered address_size section row
by_fde_row address_size section (Err e) = Uncovered

-- by an FDE of a section with the instructions of this vendor, within these limits of rows
abbrev pub by_fde : Limits → Vendor → FrameSection → (address : ℕ) → Fde → Coverage
by_fde limits vendor section address fde =
    by_fde_row fde.cie.address_size section.within.bytes (fde_row limits section vendor fde address)

-- by what is at an offset
abbrev pub by_entry : Limits → Vendor → FrameSection → (address : ℕ) → Result Fde Error → Coverage
by_entry limits vendor section address (Ok fde) = by_fde limits vendor section address fde
by_entry limits vendor section address (Err e) = NoFde e

-- by what is known of the FDE for the address: by none if it is known that there is none
abbrev pub by_known : Limits → Vendor → FrameSection → (address : ℕ) → Option Fde → Coverage
by_known limits vendor section address (Some fde) = by_fde limits vendor section address fde
by_known limits vendor section address None = Uncovered

-- .. unless it can't be read
abbrev pub by_read : Limits → Vendor → FrameSection → (address : ℕ) → Result (Option Fde) Error → Coverage
by_read limits vendor section address (Ok known) = by_known limits vendor section address known
by_read limits vendor section address (Err e) = NoFde e

-- the coverage of an address relative to a base, if it has 64 bits
abbrev pub at_address : (base relative : ℕ) → (ℕ → Coverage) → Coverage
at_address base relative coverage = if nat_lt (base + relative) (2 ^ 64) then coverage (base + relative) else NoAddress

-- by the FDE at an offset
abbrev pub covered_by_fde : Limits → Vendor → FrameSection → (base relative offset : ℕ) → Coverage
covered_by_fde limits vendor section base relative offset =
    at_address base relative (λ address. by_entry limits vendor section address (fde_from_offset section offset))

-- by the first FDE that can be read and contains the address
abbrev pub covered_by_scan : Limits → Vendor → FrameSection → (base relative : ℕ) → Coverage
covered_by_scan limits vendor section base relative =
    at_address base relative (λ address. by_read limits vendor section address (fde_scanned (fde_for_address_skipping section address)))

-- the attempt by call frames at an address that is covered so
abbrev pub row_attempt_by : {Rule Registers : Type 0} → RowMeanings Rule Registers → Bool → (values : Option ℕ) → Coverage
    → RowAttempt Rule Registers
row_attempt_by m first values (Covered address_size section row) = m.row_attempt first values address_size section row
row_attempt_by m first values Uncovered = Translates m.uncovered
row_attempt_by m first values (NoFde e) = Gives (λ registers words. Err (FdeFromOffsetFailed e))
row_attempt_by m first values NoAddress = Gives (λ registers words. Err LookupAddressOverflow)

-- the attempt of its module: nothing is said if the FDE isn't known
abbrev pub attempt_by : {Rule Registers : Type 0} → RowMeanings Rule Registers → Bool → (values : Option ℕ) → Coverage
    → Attempt Rule Registers
attempt_by m first values (Covered address_size section row) = attempt_by_row (m.row_attempt first values address_size section row)
attempt_by m first values Uncovered = Says m.uncovered
attempt_by m first values (NoFde e) = SaysNothing
attempt_by m first values NoAddress = SaysNothing

-- it is known by which FDE and row, or that there is none
abbrev pub IsKnown : Coverage → Type 0
IsKnown (Covered address_size section row) = Unit {0}
IsKnown Uncovered = Unit {0}
IsKnown (NoFde e) = ⊥
IsKnown NoAddress = ⊥

-- an error of the attempt by call frames: of the row, or why the FDE isn't known
abbrev pub IsErrorOf : Coverage → DwarfUnwinderError → Type 0
IsErrorOf (Covered address_size section row) error = IsOfRow error
IsErrorOf Uncovered error = ⊥
IsErrorOf (NoFde e) error = error ≡ FdeFromOffsetFailed e
IsErrorOf NoAddress error = error ≡ LookupAddressOverflow

-- the address is covered by a row that evaluates an expression; `meets` says which rows do
abbrev pub EvaluatesExpression : (Row ℕ → Type 0) → Coverage → Type 0
EvaluatesExpression meets (Covered address_size section row) = meets row
EvaluatesExpression meets Uncovered = ⊥
EvaluatesExpression meets (NoFde e) = ⊥
EvaluatesExpression meets NoAddress = ⊥
