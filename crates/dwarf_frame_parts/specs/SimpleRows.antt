-- Rows whose CFA is a register plus an offset, and whose kept rules have no expression.
use Rattle.std.specs.Prelude.{◌≡◌, ℕ, Option, Some, None}
use Rattle.dwarf_constants.specs.declared.common.Register.{Register}
use Rattle.dwarf_frame_rows.specs.declared.rules.CfaRule.{CfaRule}
use Rattle.dwarf_frame_rows.specs.declared.rules.CfaRule.TheVariants.{RegisterAndOffset}
use Rattle.dwarf_frame_rows.specs.declared.rules.RegisterRule.{RegisterRule}
use Rattle.dwarf_frame_rows.specs.declared.rules.RegisterRule.TheVariants as rule
use Rattle.dwarf_frame_rows.specs.Row.{Row}
use Rattle.dwarf_frame_parts.specs.declared.parts.Parts.{Parts}
use Rattle.dwarf_frame_parts.specs.declared.simple_row.SimpleRow.{SimpleRow}
use Rattle.dwarf_frame_parts.specs.declared.simple_row.SimpleRule.{SimpleRule}
use Rattle.dwarf_frame_parts.specs.declared.simple_row.SimpleRule.TheVariants.{Absent, Undefined, SameValue, Offset}
use Rattle.dwarf_frame_parts.specs.RowParts.{parts_of}

-- the rule of a register, if it has one
abbrev pub rule_shown : {T : Type 0} → SimpleRule → Option (RegisterRule T)
rule_shown Absent = None
rule_shown Undefined = Some rule.Undefined
rule_shown SameValue = Some rule.SameValue
rule_shown (Offset offset) = Some (rule.Offset offset)

-- the rule of the CFA
abbrev pub cfa_shown : {T : Type 0} → SimpleRow → CfaRule T
cfa_shown row = RegisterAndOffset row.cfa_register row.cfa_offset

-- the parts of a row
abbrev pub parts_shown : {T : Type 0} → SimpleRow → Parts T
parts_shown row = record { cfa = cfa_shown row; fp = rule_shown row.fp; ra = rule_shown row.ra }

-- A row has these parts, by the registers of the frame pointer and of the return address.
abbrev pub HasParts : (fp ra : Register) → SimpleRow → Row ℕ → Type 0
HasParts fp ra parts row = parts_of fp ra row ≡ parts_shown parts
