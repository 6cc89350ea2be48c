use Rattle.std.proofs.Common.{◌≡◌, length}
use Rattle.std.specs.Prelude.{min}
use Rattle.backtrace.proofs.core_parts.read_segment.Given as goal

abbrev pub invariant-loop-number : goal.invariant-loop-number
invariant-loop-number l = length l.block.items ≡ min l.size 65536
