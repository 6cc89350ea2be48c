-- Where the reading of a name stands.
use Rattle.std.specs.Prelude.{ℕ, ◌∷◌, ◌++◌, List, [], length, Option, option_map}
use Rattle.symbol_text.specs.declared.piece.Piece.{Piece}
use Rattle.symbol_text.specs.declared.piece.Span.{Span}
use Rattle.symbol_text.specs.declared.piece.TheConstants.{NOWHERE}
use Rattle.itanium_names.specs.declared.symbol.Frame.{Frame}
use Rattle.itanium_names.specs.Pieces.{plain}

pub record State : Type 0 where
  -- how many bytes the name has
  pub name_length : ℕ
  -- what of the name isn't read yet
  pub rest : List ℕ
  -- the name, and all that was written
  pub text : List ℕ
  -- what is still to be done, the next of it last
  pub frames : List Frame
  -- the pieces that no other piece has taken up
  pub pieces : List Piece
  -- what substitutions stand for (5.1.10)
  pub remembered : List Piece
  -- the elements of lists and packs
  pub elements : List Piece
  -- what template parameters stand for, as elements
  pub parameters : Span
  -- the piece that is being written
  pub opened : Piece

-- The reading begins.
abbrev pub began : List ℕ → State
began name = record {
  name_length = length name;
  rest = name;
  text = name;
  frames = [];
  pieces = [];
  remembered = [];
  elements = [];
  parameters = NOWHERE;
  opened = plain NOWHERE;
}

abbrev pub with_text : State → List ℕ → State
with_text s text = record s { text = text }

abbrev pub with_rest : State → List ℕ → State
with_rest s rest = record s { rest = rest }

-- A piece more.
abbrev pub with_piece : State → Piece → State
with_piece s piece = record s { pieces = s.pieces ++ piece ∷ [] }

-- What a step that only writes gives.
abbrev pub writes : State → Option (List ℕ) → Option State
writes s written = option_map (with_text s) written
