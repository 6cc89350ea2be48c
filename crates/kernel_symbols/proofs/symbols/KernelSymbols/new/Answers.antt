use Rattle.kernel_symbols.proofs.symbols.KernelSymbols.new.Goals as goal

pub returns : goal.returns
returns c = rw c.in_ok-symbols.ensures at c.in_ok-ordered.ensures.same
