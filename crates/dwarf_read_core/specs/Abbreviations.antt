-- Abbreviations in memory, as their declarations.
use Rattle.std.specs.Prelude.{◌==◌, map, Some, None, if◌then◌else◌}
use Rattle.dwarf_constants.specs.declared.constants.form.TheConstants.{DW_FORM_implicit_const}
use Rattle.dwarf_read_core.specs.AbbreviationTable.{Attribute, Declaration}
use Rattle.dwarf_read_core.specs.declared.abbrev.Abbreviation.{Abbreviation}
use Rattle.dwarf_read_core.specs.declared.abbrev.AttributeSpecification.{AttributeSpecification}

-- the attribute of a specification
abbrev pub attribute : AttributeSpecification → Attribute
attribute a = record {
  name = a.name;
  form = a.form.0;
  constant = if a.form.0 == DW_FORM_implicit_const.0 then Some a.implicit_const_value else None;
}

-- the declaration of an abbreviation
abbrev pub declaration : Abbreviation → Declaration
declaration a = record {
  code = a.code;
  tag = a.tag;
  children = a.has_children;
  attributes = map attribute a.attributes.items;
}
