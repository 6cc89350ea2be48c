use Rattle.std.proofs.Common.{◌≡◌, drop}
use Rattle.fold_options.specs.Numbers.{number_from}
use Rattle.fold_options.proofs.numbers.number_of.Given as goal

-- the number so far, with the digits that are left
abbrev pub invariant-loop-byte : goal.invariant-loop-byte
invariant-loop-byte l = number_from l.number (drop l.byte-index l.byte-items) ≡ number_from 0 l.byte-items
