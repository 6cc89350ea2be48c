use Rattle.std.proofs.Common.{◌≡◌, drop}
use Rattle.itanium_names.specs.Pieces.{first_dependence_of}
use Rattle.itanium_names.proofs.texts.first_dependence.Given as goal

-- no piece so far depends on any
abbrev pub invariant-loop-piece : goal.invariant-loop-piece
invariant-loop-piece l = first_dependence_of (drop l.piece-index l.pieces) ≡ first_dependence_of l.pieces
