use Rattle.std.proofs.Common.{◌≡◌, ◌++◌, replicate}
use Rattle.line_parts.proofs.push_times.Given as goal

abbrev pub invariant-loop-i : goal.invariant-loop-i
invariant-loop-i l = l.text.items ≡ l.fn.text.items ++ replicate l.i l.byte
