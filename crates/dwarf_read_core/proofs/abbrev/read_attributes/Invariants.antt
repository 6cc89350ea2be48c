use Rattle.std.proofs.Common.{length, map}
use Rattle.dwarf_read_core.specs.AbbreviationTable.{attributes_at, attributes_within}
use Rattle.dwarf_read_core.specs.Abbreviations.{attribute}
use Rattle.dwarf_read_core.proofs.Tables.{Within}
use Rattle.dwarf_read_core.proofs.abbrev.read_attributes.Given as goal

-- the attributes so far and what is left make the same answer
abbrev pub invariant-attributes : goal.invariant-attributes
invariant-attributes g l =
    Within attributes_within (map attribute l.attributes.items) (g.R.Reader.stretch l.input) (attributes_at (g.R.Reader.stretch l.fn.input))

abbrev pub decreases-attributes : goal.decreases-attributes
decreases-attributes g l = length (g.R.Reader.stretch l.input).bytes
