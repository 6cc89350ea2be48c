use Rattle.std.proofs.Common.{◌≡◌, ℕ, drop}
use Rattle.std.specs.BTreeMap as tree_map
use Rattle.std.specs.Option.{option_or}
use Rattle.std.specs.Ordering.{nat_cmp}
use Rattle.backtrace_lint.specs.HeaderTables.{start_at}
use Rattle.backtrace_lint.proofs.header_tables.starts_by_offset.Given as goal

-- what the map has at an offset, or else what the FDEs that are left have there
abbrev pub invariant-loop-fde : goal.invariant-loop-fde
invariant-loop-fde l =
    (offset : ℕ) → option_or (tree_map.get nat_cmp l.starts offset) (start_at (drop l.fde-index l.fdes) offset) ≡ start_at l.fdes offset
