use Rattle.std.proofs.Common.{◌≡◌, drop}
use Rattle.rust_names.specs.Legacy.{all_hex}
use Rattle.rust_names.proofs.legacy.are_hex.Given as goal

-- each byte so far is a digit
abbrev pub invariant-loop-byte : goal.invariant-loop-byte
invariant-loop-byte l = all_hex (drop l.byte-index l.bytes) ≡ all_hex l.bytes
