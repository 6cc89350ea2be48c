-- Pieces on a stack, whose top is the last of a list.
use Rattle.std.specs.Prelude.{ℕ, ◌+◌, ◌-◌, ◌==◌, Bool, true, false, not, List, [], ◌∷◌, ◌++◌, length, slice_get, slice_range, take, nat_lt, if◌then◌else◌, Option, Some, None}
use Rattle.symbol_text.specs.declared.piece.Kind.{Kind}
use Rattle.symbol_text.specs.declared.piece.Kind.TheVariants.{Plain, Pack}
use Rattle.symbol_text.specs.declared.piece.Kind.TheVariants as kinds
use Rattle.symbol_text.specs.Joining.{joined}
use Rattle.symbol_text.specs.Texts.{◌>>=◌, last_of}
use Rattle.symbol_text.specs.declared.piece.Piece.{Piece}
use Rattle.symbol_text.specs.declared.piece.Span.{Span}
use Rattle.symbol_text.specs.declared.piece.TheConstants.{NOWHERE}

-- A piece by how many are above it.
abbrev pub top_of : ℕ → List Piece → Option Piece
top_of index pieces = if nat_lt (length pieces) (index + 1) then None else slice_get pieces (length pieces - (index + 1))

-- The template arguments that either depends on, those of the first if it does.
abbrev pub merged : Span → Span → Span
merged first second = if first.start == first.end then second else first

abbrev pub is_pack_kind : Kind → Bool
is_pack_kind Pack = true
is_pack_kind _ = false

-- A piece has a template parameter in it.
abbrev pub is_dependent_piece : Piece → Bool
is_dependent_piece piece = not (piece.depends.start == piece.depends.end)

-- The template arguments that the first piece depends on which does on any.
abbrev pub first_dependence_of : List Piece → Span
first_dependence_of [] = NOWHERE
first_dependence_of (piece ∷ pieces) = if is_dependent_piece piece then piece.depends else first_dependence_of pieces

-- There is a pack that no pattern goes over.
abbrev pub has_pack_kind : List Piece → Bool
has_pack_kind [] = false
has_pack_kind (piece ∷ pieces) = if is_pack_kind piece.kind then true else has_pack_kind pieces

-- A text ends with a byte.
abbrev pub ends_with_byte_of : ℕ → List ℕ → Bool
ends_with_byte_of byte text = elim (last_of text) [ None ↦ false | Some last ↦ last == byte ]

-- A piece whose text is a stretch.
abbrev pub plain : Span → Piece
plain left = record { left = left; right = NOWHERE; base = NOWHERE; elements = NOWHERE; depends = NOWHERE; kind = Plain }

-- The elements that a stretch of a list has.
abbrev pub part_of : {X : Type 0} → Span → List X → Option (List X)
part_of span items =
    if nat_lt span.end span.start then None else
    if nat_lt (length items) span.end then None else
    Some (slice_range items span.start span.end)

-- One piece of several, which are certain elements, and the text with it.
unfoldable pub listed : List Piece → Span → List ℕ → Option (Piece × List ℕ)
listed pieces elements text =
    if has_pack_kind pieces then None else
    (joined pieces text >>= (λ whole.
    Some (
      record {
        left = record { start = length text; end = length whole };
        right = NOWHERE;
        base = NOWHERE;
        elements = elements;
        depends = first_dependence_of pieces;
        kind = kinds.List;
      },
      whole,
    )))

-- The same, where they become elements behind others.
unfoldable pub collected : List Piece → ℕ → List ℕ → Option (Piece × List ℕ)
collected pieces at text = listed pieces (record { start = at; end = at + length pieces }) text

-- A piece in place of some on top of others.
unfoldable pub replaced : ℕ → Piece → List Piece → Option (List Piece)
replaced count piece pieces =
    if nat_lt (length pieces) count then None else Some (take (length pieces - count) pieces ++ piece ∷ [])
