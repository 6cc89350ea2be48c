use Rattle.std.proofs.Common.{◌≡◌, ◌+◌, drop}
use Rattle.framehop_x86_instructions.specs.Prefixes.{prefix_count}
use Rattle.framehop_x86_instructions.proofs.prefixes.prefix_count.Given as goal

abbrev pub invariant-loop-i : goal.invariant-loop-i
invariant-loop-i l = l.i + prefix_count (drop l.i l.code) ≡ prefix_count l.code
