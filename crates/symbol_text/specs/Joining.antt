-- Lists of pieces.
use Rattle.std.specs.Prelude.{ℕ, ◌==◌, ◌&&◌, Bool, List, [], ◌∷◌, codes, if◌then◌else◌, Option, Some}
use Rattle.symbol_text.specs.declared.piece.Piece.{Piece}
use Rattle.symbol_text.specs.Texts.{◌>>=◌, appended, whole_copied}

-- A piece has no text.
abbrev pub is_empty_piece : Piece → Bool
is_empty_piece piece = (piece.left.start == piece.left.end) && (piece.right.start == piece.right.end)

-- A text with a piece behind others.
unfoldable pub joined_more : Piece → List ℕ → Option (List ℕ)
joined_more piece text =
    if is_empty_piece piece then Some text else (appended (codes ", ") text >>= (λ comma. whole_copied piece comma))

-- A text with further pieces behind it.
abbrev pub all_joined : List Piece → List ℕ → Option (List ℕ)
all_joined [] text = Some text
all_joined (piece ∷ pieces) text = joined_more piece text >>= (λ more. all_joined pieces more)

-- A text with pieces behind it, and commas between them.
abbrev pub joined : List Piece → List ℕ → Option (List ℕ)
joined [] text = Some text
joined (piece ∷ pieces) text = whole_copied piece text >>= (λ more. all_joined pieces more)
