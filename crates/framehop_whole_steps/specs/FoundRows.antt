-- The rows by which steps go that are taken whole.
use Rattle.std.specs.Prelude.{ℕ, Bool, true, false, Option, Some}
use Rattle.std.specs.FinMap.{get}
use Rattle.dwarf_readers.specs.Stretch.{Stretch}
use Rattle.dwarf_frame_rows.specs.Row.{Row}
use Rattle.dwarf_frame_rows.specs.declared.rules.RegisterRule.{RegisterRule}
use Rattle.dwarf_frame_rows.specs.declared.rules.RegisterRule.TheVariants as rule

-- A row of a section of these bytes, and the register of the return address, as the row's CIE names it.
pub record FoundRow : Type 0 where
  pub section : Stretch
  pub row : Row ℕ
  pub column : ℕ

abbrev pub found_row : Stretch → Row ℕ → (column : ℕ) → FoundRow
found_row section row column = record { section = section; row = row; column = column }

-- there is no caller (DWARF 5, 6.4.4)
abbrev pub is_undefined : Option (RegisterRule ℕ) → Bool
is_undefined (Some rule.Undefined) = true
is_undefined others = false

-- the row says that there is no caller
abbrev pub ends_at : FoundRow → Bool
ends_at found = is_undefined (get found.row.rules found.column)
