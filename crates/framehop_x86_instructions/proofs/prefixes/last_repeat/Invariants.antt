use Rattle.std.proofs.Common.{◌≡◌, drop}
use Rattle.std.specs.Prelude.{fold}
use Rattle.framehop_x86_instructions.specs.Prefixes.{later_repeat, last_repeat}
use Rattle.framehop_x86_instructions.proofs.prefixes.last_repeat.Given as goal

abbrev pub invariant-loop-byte : goal.invariant-loop-byte
invariant-loop-byte l = fold later_repeat l.last (drop l.byte-index l.bytes) ≡ last_repeat l.bytes
