-- Tables of abbreviations in memory, as their declarations.
use Rattle.std.specs.Prelude.{List, map}
use Rattle.dwarf_read_core.specs.AbbreviationTable.{Declaration}
use Rattle.dwarf_read_core.specs.Abbreviations.{declaration}
use Rattle.dwarf_read_core.specs.declared.abbrev.Abbreviations.{Abbreviations}

-- the declarations of a table
abbrev pub declarations : Abbreviations → List Declaration
declarations table = map declaration table.declarations.items
