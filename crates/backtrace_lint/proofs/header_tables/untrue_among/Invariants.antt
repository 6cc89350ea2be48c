use Rattle.std.proofs.Common.{◌≡◌, ◌++◌, drop}
use Rattle.std.specs.BTreeMap as tree_map
use Rattle.std.specs.Ordering.{nat_cmp}
use Rattle.backtrace_lint.specs.HeaderTables.{named_by, untrue_from}
use Rattle.backtrace_lint.proofs.header_tables.untrue_among.Given as goal

-- what was found, with what is found of the rows that are left
abbrev pub invariant-loop-index : goal.invariant-loop-index
invariant-loop-index l =
    l.found.items ++ untrue_from (named_by (tree_map.get nat_cmp l.starts) l.section) l.index (drop l.index l.rows)
    ≡ untrue_from (named_by (tree_map.get nat_cmp l.starts) l.section) 0 l.rows
