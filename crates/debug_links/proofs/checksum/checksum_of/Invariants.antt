use Rattle.std.proofs.Common.{◌≡◌, ◌-◌, ◌^◌, drop}
use Rattle.std.specs.Prelude.{fold}
use Rattle.debug_links.specs.Checksums.{with_byte}
use Rattle.debug_links.proofs.checksum.checksum_of.Given as goal

-- the register so far, with the bytes that are left
abbrev pub invariant-loop-byte : goal.invariant-loop-byte
invariant-loop-byte l = fold with_byte l.register (drop l.byte-index l.bytes) ≡ fold with_byte (2 ^ 32 - 1) l.bytes
