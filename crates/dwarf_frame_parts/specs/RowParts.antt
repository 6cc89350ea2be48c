-- The parts of a row that a step asks for, on any architecture.
use Rattle.std.specs.Prelude.{◌≡◌, false, Option, option_map, ◌==◌}
use Rattle.std.specs.FinMap.{get}
use Rattle.dwarf_constants.specs.declared.common.Register.{Register}
use Rattle.dwarf_frame_instructions.specs.Parts.{sign_state}
use Rattle.dwarf_frame_instructions.specs.StateViews.{cfa_as, rule_as}
use Rattle.dwarf_frame_rows.specs.Row.{Row}
use Rattle.dwarf_frame_rows.specs.declared.rules.RegisterRule.{RegisterRule}
use Rattle.dwarf_frame_parts.specs.declared.parts.Parts.{Parts}

-- the parts of a row, by the registers of the frame pointer and of the return address
abbrev pub parts_of : {T : Type 0} → (fp ra : Register) → Row T → Parts T
parts_of fp ra row = record { cfa = row.cfa; fp = get row.rules fp.0; ra = get row.rules ra.0 }

-- a register's rule, if it has one, with the offset of its expression as a number
abbrev pub column_as : {T U : Type 0} → (T → U) → Option (RegisterRule T) → Option (RegisterRule U)
column_as number column = option_map (rule_as number) column

-- the parts with the offsets of their expressions as numbers
abbrev pub parts_as : {T U : Type 0} → (T → U) → Parts T → Parts U
parts_as number parts = record {
  cfa = cfa_as number parts.cfa;
  fp = column_as number parts.fp;
  ra = column_as number parts.ra;
}

-- A register isn't that of the sign state of AArch64.
abbrev pub IsApart : Register → Type 0
IsApart register = (register.0 == sign_state) ≡ false
