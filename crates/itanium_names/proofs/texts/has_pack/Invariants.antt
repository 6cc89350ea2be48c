use Rattle.std.proofs.Common.{◌≡◌, drop}
use Rattle.itanium_names.specs.Pieces.{has_pack_kind}
use Rattle.itanium_names.proofs.texts.has_pack.Given as goal

-- no piece so far is a pack
abbrev pub invariant-loop-piece : goal.invariant-loop-piece
invariant-loop-piece l = has_pack_kind (drop l.piece-index l.pieces) ≡ has_pack_kind l.pieces
