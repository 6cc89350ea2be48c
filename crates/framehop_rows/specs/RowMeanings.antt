-- What call frames mean on an architecture.
use Rattle.std.specs.Prelude.{ℕ, Bool, Option}
use Rattle.dwarf_constants.specs.declared.common.Vendor.{Vendor}
use Rattle.dwarf_readers.specs.Stretch.{Stretch}
use Rattle.dwarf_frame_rows.specs.Row.{Row}
use Rattle.framehop_rows.specs.RowAttempt.{RowAttempt}

-- How an architecture unwinds by call frames: by a row of a section, in a first or a later frame, by the most values of an expression,
-- if there is a limit, and the size of an address in bytes; by which rule code that no row covers; and whose extensions of call frame
-- instructions it reads.
pub record RowMeanings (Rule Registers : Type 0) : Type 0 where
  pub row_attempt : Bool → (values : Option ℕ) → (address_size : ℕ) → (section : Stretch) → Row ℕ → RowAttempt Rule Registers
  pub uncovered : Rule
  pub vendor : Vendor

-- an architecture by these three
abbrev pub row_meanings : {Rule Registers : Type 0} → (Bool → Option ℕ → ℕ → Stretch → Row ℕ → RowAttempt Rule Registers) → Rule → Vendor
    → RowMeanings Rule Registers
row_meanings row_attempt uncovered vendor = record { row_attempt = row_attempt; uncovered = uncovered; vendor = vendor }
