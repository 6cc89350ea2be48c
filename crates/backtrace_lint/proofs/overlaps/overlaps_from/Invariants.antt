use Rattle.std.proofs.Common.{◌≡◌, ◌++◌, drop}
use Rattle.backtrace_lint.specs.Overlaps.{overlaps_from}
use Rattle.backtrace_lint.proofs.overlaps.overlaps_from.Given as goal

-- what was found, with what is found from here on
abbrev pub invariant-loop-fde : goal.invariant-loop-fde
invariant-loop-fde l = l.found.items ++ overlaps_from l.furthest (drop l.fde-index l.fdes) ≡ overlaps_from l.fn.before l.fdes
