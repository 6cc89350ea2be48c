use Rattle.std.proofs.Common.{◌≡◌, ◌++◌, map}
use Rattle.folded_stacks.specs.LineViews.{entry_seen, line_seen}
use Rattle.folded_stacks.proofs.counts.lines_in.Given as goal

-- the lines, with those that are left
abbrev pub invariant-loop-stack : goal.invariant-loop-stack
invariant-loop-stack l = map line_seen l.lines.items ++ map entry_seen l.stack-iterator ≡ map entry_seen l.fn.counts.entries
