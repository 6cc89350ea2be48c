use Rattle.std.proofs.Common.{◌≡◌, ◌<◌, ◌^◌, drop}
use Rattle.symbol_text.specs.Numbers.{number_from}
use Rattle.symbol_text.proofs.numerals.digits_at.Given as goal

-- what is left of the digits makes of the number what all make of 0
abbrev pub invariant-loop-i : goal.invariant-loop-i
invariant-loop-i l = record {
  same : number_from l.numerals l.number (drop l.i l.bytes) ≡ number_from l.numerals 0 l.bytes;
  small : l.number < 2 ^ 38;
}
