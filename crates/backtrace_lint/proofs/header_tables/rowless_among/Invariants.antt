use Rattle.std.proofs.Common.{◌≡◌, ◌++◌, drop}
use Rattle.std.specs.List.{filter_map}
use Rattle.backtrace_lint.specs.HeaderTableViews.{rowless_in}
use Rattle.backtrace_lint.proofs.header_tables.rowless_among.Given as goal

-- what was found, with what is found of the FDEs that are left
abbrev pub invariant-loop-fde : goal.invariant-loop-fde
invariant-loop-fde l = l.found.items ++ filter_map (rowless_in l.named) (drop l.fde-index l.fdes) ≡ filter_map (rowless_in l.named) l.fdes
