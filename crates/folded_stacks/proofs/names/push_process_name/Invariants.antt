use Rattle.std.proofs.Common.{◌≡◌, ◌++◌, drop}
use Rattle.folded_stacks.specs.Names.{process_name, squeezed}
use Rattle.folded_stacks.proofs.names.push_process_name.Given as goal

-- the text, with the bytes of the name that are left
abbrev pub invariant-loop-byte : goal.invariant-loop-byte
invariant-loop-byte l = l.text.items ++ squeezed l.replaced (drop l.byte-index l.name) ≡ l.initial.text.items ++ process_name l.name
