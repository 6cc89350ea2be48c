use Rattle.std.proofs.Common.{◌≡◌, ◌++◌, drop}
use Rattle.std.specs.List.{filter_map}
use Rattle.backtrace_lint.specs.HeaderTables.{located}
use Rattle.backtrace_lint.proofs.header_tables.located_fdes.Given as goal

-- what was found, with what is found of the FDEs that are left
abbrev pub invariant-loop-fde : goal.invariant-loop-fde
invariant-loop-fde l = l.found.items ++ filter_map located (drop l.fde-index l.fdes) ≡ filter_map located l.fdes
