-- Steps that write, and those that keep pieces.
use Rattle.std.specs.Prelude.{ℕ, ◌+◌, ◌-◌, ◌==◌, ◌&&◌, Bool, true, false, List, [], ◌∷◌, ◌++◌, length, nat_lt, if◌then◌else◌, codes, Option, Some, None}
use Rattle.symbol_text.specs.declared.modifiers.Modifier.{Modifier}
use Rattle.symbol_text.specs.declared.piece.Kind.{Kind}
use Rattle.symbol_text.specs.declared.piece.Kind.TheVariants as kinds
use Rattle.symbol_text.specs.declared.piece.Piece.{Piece}
use Rattle.symbol_text.specs.declared.piece.Span.{Span}
use Rattle.symbol_text.specs.declared.piece.TheConstants.{NOWHERE}
use Rattle.symbol_text.specs.Joining.{joined}
use Rattle.symbol_text.specs.Modifiers.{closing_of, modified, opening_of, pack_modified as elements_modified}
use Rattle.symbol_text.specs.Numbers.{after}
use Rattle.symbol_text.specs.Texts.{◌>>=◌, appended, copied}
use Rattle.itanium_names.specs.Pieces.{ends_with_byte_of, is_pack_kind, merged, part_of, plain, replaced, top_of}
use Rattle.itanium_names.specs.State.{State, with_text, writes}

-- A piece begins at the end of the text.
abbrev pub begun : State → Option State
begun s = Some (record s { opened = plain (record { start = length s.text; end = length s.text }) })

-- The piece that is being written depends on what this one does.
abbrev pub depending : State → Piece → State
depending s piece = record s { opened = record s.opened { depends = merged s.opened.depends piece.depends } }

unfoldable pub left_written : ℕ → State → Option State
left_written index s = top_of index s.pieces >>= (λ piece.
    if is_pack_kind piece.kind then None else
    writes (depending s piece) (copied piece.left s.text))

unfoldable pub right_written : ℕ → State → Option State
right_written index s = top_of index s.pieces >>= (λ piece. writes s (copied piece.right s.text))

-- The name that constructors are called by, if there is one.
unfoldable pub base_written : ℕ → State → Option State
base_written index s = top_of index s.pieces >>= (λ piece.
    if piece.base.start == piece.base.end then None else writes s (copied piece.base s.text))

unfoldable pub space_after : ℕ → State → Option State
space_after byte s = if ends_with_byte_of byte s.text then writes s (appended (codes " ") s.text) else Some s

-- A space unless a piece has a right part.
unfoldable pub gap_written : ℕ → State → Option State
gap_written index s = top_of index s.pieces >>= (λ piece.
    if piece.right.start == piece.right.end then writes s (appended (codes " ") s.text) else Some s)

-- What opens the declarator of a pointer to a member.
abbrev pub member_opening_of : Kind → List ℕ
member_opening_of kinds.Function = codes "("
member_opening_of kinds.Array = codes " ("
member_opening_of _ = codes " "

unfoldable pub opening_written : ℕ → State → Option State
opening_written index s = top_of index s.pieces >>= (λ piece. writes s (appended (opening_of piece.kind) s.text))

unfoldable pub member_opening_written : ℕ → State → Option State
member_opening_written index s = top_of index s.pieces >>= (λ piece. writes s (appended (member_opening_of piece.kind) s.text))

unfoldable pub closing_written : ℕ → State → Option State
closing_written index s = top_of index s.pieces >>= (λ piece. writes s (appended (closing_of piece.kind) s.text))

-- The bounds of an array without the space before them, or else the right part.
abbrev pub bounds_of : Kind → Span → Span
bounds_of kinds.Array right = if nat_lt right.start right.end then record { start = right.start + 1; end = right.end } else right
bounds_of _ right = right

unfoldable pub bounds_written : ℕ → State → Option State
bounds_written index s = top_of index s.pieces >>= (λ piece. writes s (copied (bounds_of piece.kind piece.right) s.text))

-- The right part begins.
abbrev pub turned : State → Option State
turned s = Some (record s {
  opened = record s.opened {
    left = record { start = s.opened.left.start; end = length s.text };
    right = record { start = length s.text; end = length s.text };
  };
})

unfoldable pub base_taken : ℕ → State → Option State
base_taken index s = top_of index s.pieces >>= (λ piece. Some (record s { opened = record s.opened { base = piece.base } }))

-- The piece that is being written, as a whole.
abbrev pub finished : Kind → State → Piece
finished kind s = record s.opened { right = record { start = s.opened.right.start; end = length s.text }; kind = kind }

-- It stands for some pieces.
unfoldable pub ended : ℕ → Kind → State → Option State
ended count kind s = replaced count (finished kind s) s.pieces >>= (λ pieces. Some (record s { pieces = pieces }))

unfoldable pub ended_as : ℕ → ℕ → State → Option State
ended_as count index s = top_of index s.pieces >>= (λ piece. ended count piece.kind s)

-- What a template with its arguments is, by what it is without them.
abbrev pub template_kind : Kind → Kind
template_kind kinds.Special = kinds.Special
template_kind _ = kinds.Template

unfoldable pub template_ended : State → Option State
template_ended s = top_of 1 s.pieces >>= (λ piece. ended 2 (template_kind piece.kind) s)

-- A type that is made of another one, or of each element of a pack.
unfoldable pub one_modified : Modifier → Piece → State → Option State
one_modified modifier piece s = modified modifier piece s.text >>= (λ made.
    replaced 1 made.0 s.pieces >>= (λ pieces. Some (record s { text = made.1; pieces = pieces })))

unfoldable pub pack_modified : Modifier → Piece → State → Option State
pack_modified modifier pack s =
    elements_modified modifier pack.elements s.elements s.text >>= (λ made.
    replaced 1 (record pack { elements = record { start = length s.elements; end = length made.0 } }) s.pieces >>= (λ pieces.
    Some (record s { text = made.1; elements = made.0; pieces = pieces })))

unfoldable pub type_modified : Modifier → State → Option State
type_modified modifier s = top_of 0 s.pieces >>= (λ piece. elim piece.kind [
  | kinds.List ↦ None
  | kinds.Pack ↦ pack_modified modifier piece s
  | _ ↦ one_modified modifier piece s
])

-- A list of what a pack has.
abbrev pub expansion : Piece → Span → Piece
expansion pack left = record pack { left = left; right = NOWHERE; kind = kinds.List }

unfoldable pub pack_expanded : Piece → State → Option State
pack_expanded pack s = part_of pack.elements s.elements >>= (λ items. joined items s.text >>= (λ text.
    replaced 1 (expansion pack (record { start = length s.text; end = length text })) s.pieces >>= (λ pieces.
    Some (record s { text = text; pieces = pieces }))))

unfoldable pub expanded : State → Option State
expanded s = top_of 0 s.pieces >>= (λ piece. if is_pack_kind piece.kind then pack_expanded piece s else None)

unfoldable pub kept : State → Option State
kept s = top_of 0 s.pieces >>= (λ piece. Some (record s { remembered = s.remembered ++ piece ∷ [] }))

unfoldable pub kept_unless_end : State → Option State
kept_unless_end s = elim (after 69 s.rest) [ None ↦ kept s | Some rest ↦ Some s ]

unfoldable pub tagged : State → Option State
tagged s = top_of 0 s.pieces >>= (λ piece. Some (record s { parameters = piece.elements }))
