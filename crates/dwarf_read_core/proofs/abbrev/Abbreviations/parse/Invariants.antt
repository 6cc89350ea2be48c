use Rattle.std.proofs.Common.{◌≡◌, length}
use Rattle.dwarf_read_core.specs.AbbreviationTable.{table_at}
use Rattle.dwarf_read_core.specs.DebugAbbrev.{declarations}
use Rattle.dwarf_read_core.proofs.Tables.{table_from}
use Rattle.dwarf_read_core.proofs.abbrev.Abbreviations.parse.Given as goal

-- the declarations so far and what is left make the same answer
abbrev pub invariant-table : goal.invariant-table
invariant-table g l = table_from (declarations l.table) (g.R.Reader.stretch l.input) ≡ table_at (g.R.Reader.stretch l.fn.input)

abbrev pub decreases-table : goal.decreases-table
decreases-table g l = length (g.R.Reader.stretch l.input).bytes
