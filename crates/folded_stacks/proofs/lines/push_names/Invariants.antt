use Rattle.std.proofs.Common.{◌≡◌, ◌++◌, true, drop}
use Rattle.folded_stacks.specs.Lines.{names_text}
use Rattle.folded_stacks.proofs.lines.push_names.Given as goal

-- the text, with the names that are left
abbrev pub invariant-loop-number : goal.invariant-loop-number
invariant-loop-number l =
    l.text.items ++ names_text l.is_first l.names (drop l.number-index l.numbers) ≡ l.initial.text.items ++ names_text true l.names l.numbers
