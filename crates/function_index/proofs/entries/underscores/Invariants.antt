use Rattle.std.proofs.Common.{◌≡◌, ◌+◌, drop}
use Rattle.function_index.specs.Entries.{underscores}
use Rattle.function_index.proofs.entries.underscores.Given as goal

-- the underscores so far, with those that are left
abbrev pub invariant-loop-count : goal.invariant-loop-count
invariant-loop-count l = l.count + underscores (drop l.count l.name) ≡ underscores l.name
