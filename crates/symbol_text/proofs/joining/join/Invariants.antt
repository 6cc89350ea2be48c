use Rattle.std.proofs.Common.{◌≡◌, drop}
use Rattle.symbol_text.specs.Joining.{all_joined, joined}
use Rattle.symbol_text.proofs.joining.join.Given as goal

-- what is left, behind the text so far, gives what all give
abbrev pub invariant-loop-piece : goal.invariant-loop-piece
invariant-loop-piece l = all_joined (drop l.piece-index l.rest) l.text.items ≡ joined l.fn.pieces l.fn.text.items
