use Rattle.std.proofs.Common.{◌≡◌, ◌++◌, length, map}
use Rattle.kernel_symbols.specs.Lines.{symbols_of}
use Rattle.kernel_symbols.specs.LineViews.{symbol_seen}
use Rattle.kernel_symbols.proofs.symbols.symbols_of.Given as goal

-- the symbols so far, with those of the lines that are left
abbrev pub invariant-lines : goal.invariant-lines
invariant-lines l = map symbol_seen l.symbols.items ++ symbols_of l.rest ≡ symbols_of l.fn.list

abbrev pub decreases-lines : goal.decreases-lines
decreases-lines l = length l.rest
