use Rattle.std.proofs.Common.{rules}
use Rattle.fold_stacks.proofs.SymbolNumbers.{symbols-put}
use Rattle.fold_stacks.proofs.name_table.NameTable.number_of_symbol.Goals as goal

pub invariant_of-self-2 : goal.invariant_of-self-2
invariant_of-self-2 c =
    symbols-put c.self-2.inside.names c.self-2.inside.symbols.entries c.insert.new.self.entries c.in_ok-key.key c.in_ok-number.number c.in_ok-insert.ensures.updates.1
    c.in_ok-insert.ensures.updates.3 (search rules) c.self-2.invariant
