-- The parts of rows of the code.
use Rattle.std.proofs.Common.{◌≡◌, ℕ, refl}
use Rattle.dwarf_constants.specs.declared.common.Register.{Register}
use Rattle.dwarf_frame_instructions.specs.Execution.{row_in}
use Rattle.dwarf_frame_instructions.specs.StateViews.{rule_as}
use Rattle.dwarf_frame_instructions.proofs.Laws.{rule_seen}
use Rattle.dwarf_frame_rows.specs.Row.{row_of}
use Rattle.dwarf_frame_rows.specs.declared.row.UnwindTableRow.{UnwindTableRow}
use Rattle.dwarf_frame_parts.specs.RowParts.{parts_as, parts_of}

-- the parts of a row whose expressions' places are numbers
pub parts-alike : {T L : Type 0} (number : T → ℕ) (fp ra : Register) (row : UnwindTableRow T L) → parts_as number (parts_of fp ra (row_of row)) ≡ parts_of fp ra (row_in number row)
parts-alike number fp ra row = rw (rule_seen (rule_as number) (row_of row).rules fp.0, rule_seen (rule_as number) (row_of row).rules ra.0) refl
