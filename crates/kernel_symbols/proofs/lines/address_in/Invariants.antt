use Rattle.std.proofs.Common.{◌≡◌, drop}
use Rattle.kernel_symbols.specs.Lines.{address_from}
use Rattle.kernel_symbols.proofs.lines.address_in.Given as goal

-- the number so far, with the bytes that are left
abbrev pub invariant-loop-index : goal.invariant-loop-index
invariant-loop-index l = address_from l.number (drop l.index l.line) ≡ address_from 0 l.line
