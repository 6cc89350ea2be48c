use Rattle.std.proofs.Common.{◌≡◌, ◌-◌, ◌<◌, ◌^◌, drop}
use Rattle.rust_names.specs.Numerals.{digits_from}
use Rattle.rust_names.proofs.numbers.digits_at.Given as goal

-- what is left of the digits makes of the number what all make of 0
abbrev pub invariant-loop-i : goal.invariant-loop-i
invariant-loop-i l = record {
  same : digits_from l.number (drop l.i l.bytes) ≡ digits_from 0 l.bytes;
  small : l.number < 2 ^ 64 - 16;
}
