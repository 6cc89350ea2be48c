use Rattle.std.proofs.Common.{◌≡◌, ◌++◌, drop}
use Rattle.std.specs.List.{filter_map}
use Rattle.backtrace_lint.specs.LeftOut.{left_out}
use Rattle.backtrace_lint.proofs.left_out.left_outs.Given as goal

-- what was found, with what is found of the FDEs that are left
abbrev pub invariant-loop-fde : goal.invariant-loop-fde
invariant-loop-fde l = l.found.items ++ filter_map left_out (drop l.fde-index l.fdes) ≡ filter_map left_out l.fdes
