use Rattle.fold_stacks.proofs.Kept.{kept_numbers}
use Rattle.fold_stacks.proofs.SymbolNumbers.{symbols-kept}
use Rattle.fold_stacks.proofs.name_table.NameTable.number_of.Goals as goal

pub invariant_of-self : goal.invariant_of-self
invariant_of-self c = symbols-kept c.self.inside.names c.number_of.new.self c.args.text.now c.self.inside.symbols.entries c.number_of.ensures.names c.self.invariant

pub returns-clause-kept : goal.returns-clause-kept
returns-clause-kept c = rw (← c.self.view_is) (kept_numbers c.self.inside.names c.number_of.new.self c.args.text.now c.number_of.ensures.names)
