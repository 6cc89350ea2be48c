-- The table of an entry: a line of headings, and one for each row.
use Rattle.std.specs.Prelude.{ℕ, ◌*◌, ◌==◌, Bool, List, [], ◌++◌, codes, decimal, Option, Some, None, if◌then◌else◌}
use Rattle.std.specs.FinMap.{get}
use Rattle.std.specs.List.{flat_map}
use Rattle.json_program.specs.Lines.{line}
use Rattle.dwarf_frame_instructions.specs.Programs.{RowList}
use Rattle.dwarf_frame_rows.specs.Row.{Row}
use Rattle.dwarf_frame_rows.specs.declared.rules.CfaRule.{CfaRule}
use Rattle.dwarf_frame_rows.specs.declared.rules.CfaRule.TheVariants as cfa
use Rattle.dwarf_frame_rows.specs.declared.rules.RegisterRule.{RegisterRule}
use Rattle.dwarf_frame_rows.specs.declared.rules.RegisterRule.TheVariants as rule
use Rattle.line_parts.specs.Parts.{cell_of, hex_of, with_sign}
use Rattle.frame_table.specs.Names.{register_in_full, register_name}
use Rattle.frame_table.specs.declared.names.Machine.{Machine}

-- what the lines of one table have in common: whose names registers have, how many bytes an address has, which column is that of the
-- return address, the columns, and whether the table is shown at all
pub record Table : Type 0 where
  pub machine : Option Machine
  pub address_size : ℕ
  pub return_address : ℕ
  pub columns : List ℕ
  pub is_shown : Bool

-- how the CFA is found: a register and an offset, or by an expression
abbrev pub cfa_text : {T : Type 0} → Option Machine → CfaRule T → List ℕ
cfa_text machine (cfa.RegisterAndOffset register offset) = register_name machine register.0 ++ with_sign offset
cfa_text machine (cfa.Expression expression) = codes "exp"

-- how a register is found: u if it can't be recovered, s if it has its own value, c and v with an offset from the CFA
abbrev pub rule_text : {T : Type 0} → Option Machine → RegisterRule T → List ℕ
rule_text machine rule.Undefined = codes "u"
rule_text machine rule.SameValue = codes "s"
rule_text machine (rule.Offset offset) = codes "c" ++ with_sign offset
rule_text machine (rule.ValOffset offset) = codes "v" ++ with_sign offset
rule_text machine (rule.Register register) = register_in_full machine register.0
rule_text machine (rule.Expression expression) = codes "exp"
rule_text machine (rule.ValExpression expression) = codes "vexp"
rule_text machine rule.Architectural = codes "arch"
rule_text machine (rule.Constant n) = decimal n

-- how a register is found that may have no rule: without one it can't be recovered
abbrev pub found_text : {T : Type 0} → Option Machine → Option (RegisterRule T) → List ℕ
found_text machine None = codes "u"
found_text machine (Some rule) = rule_text machine rule

-- the heading of a column
abbrev pub column_name : Table → ℕ → List ℕ
column_name table register = if register == table.return_address then codes "ra" else register_name table.machine register

-- a cell for each column
abbrev pub column_cells : Table → (ℕ → List ℕ) → List ℕ
column_cells table text = flat_map (λ register. cell_of 5 (text register)) table.columns

-- a line of a table: an address or its heading, the CFA, and the columns
abbrev pub line_of_cells : Table → List ℕ → List ℕ → (ℕ → List ℕ) → List ℕ
line_of_cells table address cfa text = line (cell_of (2 * table.address_size) address ++ cell_of 8 cfa ++ column_cells table text)

-- the headings
abbrev pub heading_line : Table → List ℕ
heading_line table = line_of_cells table (codes "   LOC") (codes "CFA") (column_name table)

-- how a row finds a register
abbrev pub rule_text_in : {T : Type 0} → Table → Row T → ℕ → List ℕ
rule_text_in table row register = found_text table.machine (get row.rules register)

-- the cells of how a row finds the registers of the columns
abbrev pub rule_cells : {T : Type 0} → Table → Row T → List ℕ
rule_cells table row = column_cells table (rule_text_in table row)

-- the line of a row: its start, the CFA, and how each column is found
abbrev pub row_line : {T : Type 0} → Table → Row T → List ℕ
row_line table row =
    line_of_cells table (hex_of (2 * table.address_size) row.start) (cfa_text table.machine row.cfa) (rule_text_in table row)

-- a line, in a table that is shown
abbrev pub if_shown : Table → List ℕ → List ℕ
if_shown table text = if table.is_shown then text else []

-- the line of a row, in a table that is shown
abbrev pub shown_line : {T : Type 0} → Table → Row T → List ℕ
shown_line table row = if_shown table (row_line table row)

-- the line of a row, if one is given
abbrev pub given_line : {T : Type 0} → Table → Option (Row T) → List ℕ
given_line table None = []
given_line table (Some row) = shown_line table row

-- the lines of rows
abbrev pub row_lines : {T : Type 0} → Table → List (Row T) → List ℕ
row_lines table rows = flat_map (shown_line table) rows

-- the lines of a table
abbrev pub table_text : Table → RowList ℕ → List ℕ
table_text table rows = if_shown table (heading_line table) ++ row_lines table rows.rows
