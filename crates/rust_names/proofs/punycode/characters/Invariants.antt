use Rattle.std.proofs.Common.{◌≡◌, take}
use Rattle.rust_names.proofs.punycode.characters.Given as goal

-- the characters of the bytes so far
abbrev pub invariant-loop-byte : goal.invariant-loop-byte
invariant-loop-byte l = l.found.items ≡ take l.byte-index l.bytes
