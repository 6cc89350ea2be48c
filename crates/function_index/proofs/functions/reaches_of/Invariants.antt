use Rattle.std.proofs.Common.{◌≡◌, ◌++◌, drop}
use Rattle.function_index.specs.Functions.{reaches_from}
use Rattle.function_index.proofs.functions.reaches_of.Given as goal

-- what was found, with what is found from here on
abbrev pub invariant-loop-function : goal.invariant-loop-function
invariant-loop-function l = l.reaches.items ++ reaches_from l.reach (drop l.function-index l.functions) ≡ reaches_from 0 l.functions
