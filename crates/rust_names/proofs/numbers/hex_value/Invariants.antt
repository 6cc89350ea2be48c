use Rattle.std.proofs.Common.{◌≡◌, drop}
use Rattle.rust_names.specs.Numerals.{hex_value_from}
use Rattle.rust_names.proofs.numbers.hex_value.Given as goal

-- what is left of the digits makes of the number what all make of 0
abbrev pub invariant-loop-byte : goal.invariant-loop-byte
invariant-loop-byte l = hex_value_from l.number (drop l.byte-index l.digits) ≡ hex_value_from 0 l.digits
