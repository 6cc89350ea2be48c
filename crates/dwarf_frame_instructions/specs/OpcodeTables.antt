-- The opcodes in all eight bits from one section of the standard on, which the parts of a reader of instructions go over in turn.
use Rattle.std.specs.Prelude.{List, ◌++◌}
use Rattle.dwarf_constants.specs.declared.constants.DwCfa.{DwCfa}
use Rattle.dwarf_frame_instructions.specs.Instructions.{Conventions, Operands, cfa_definition, offset_rules, other_rules, padding, row_state, vendor_opcodes}

-- from row state on (6.4.2.4)
abbrev pub from_row_state : Conventions → List (DwCfa × Operands)
from_row_state conventions = row_state ++ padding ++ vendor_opcodes conventions.vendor

-- from the other register rules on (6.4.2.3)
abbrev pub from_other_rules : Conventions → List (DwCfa × Operands)
from_other_rules conventions = other_rules conventions ++ from_row_state conventions

-- from the register rules by an offset on (6.4.2.3)
abbrev pub from_offset_rules : Conventions → List (DwCfa × Operands)
from_offset_rules conventions = offset_rules ++ from_other_rules conventions

-- from the definition of the CFA on (6.4.2.2)
abbrev pub from_cfa_definition : Conventions → List (DwCfa × Operands)
from_cfa_definition conventions = cfa_definition conventions ++ from_offset_rules conventions
