use Rattle.std.proofs.Common.{◌≡◌, ◌||◌, ◌+◌, ℕ, drop}
use Rattle.std.specs.BTreeSet as tree_set
use Rattle.std.specs.Ordering.{nat_cmp}
use Rattle.backtrace_lint.specs.HeaderTables.{is_named}
use Rattle.backtrace_lint.proofs.header_tables.offsets_named.Given as goal

-- the set has an offset, or a row that is left names it
abbrev pub invariant-loop-row : goal.invariant-loop-row
invariant-loop-row l =
    (offset : ℕ) → (tree_set.contains nat_cmp l.named offset || is_named (drop l.row-index l.rows) (l.section + offset)) ≡ is_named l.rows (l.section + offset)
