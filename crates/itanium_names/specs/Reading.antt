-- Steps that read.
use Rattle.std.specs.Prelude.{ℕ, ◌+◌, ◌-◌, ◌==◌, ◌||◌, Bool, true, false, List, [], ◌∷◌, ◌++◌, length, slice_get, take, drop, codes, nat_eq, nat_lt, if◌then◌else◌, Option, Some, None, option_map}
use Rattle.std.specs.List.{starts_with}
use Rattle.symbol_text.specs.declared.numerals.Numerals.TheVariants.{Decimal, Base36}
use Rattle.symbol_text.specs.declared.piece.Kind.{Kind}
use Rattle.symbol_text.specs.declared.piece.Kind.TheVariants as kinds
use Rattle.symbol_text.specs.declared.piece.Piece.{Piece}
use Rattle.symbol_text.specs.declared.piece.Span.{Span}
use Rattle.symbol_text.specs.Numbers.{after, number_of, ordinal_of}
use Rattle.symbol_text.specs.Texts.{◌>>=◌, appended, decimal_appended}
use Rattle.itanium_names.specs.Pieces.{plain, replaced, top_of}
use Rattle.itanium_names.specs.State.{State, with_piece, with_rest, with_text}
use Rattle.itanium_names.specs.Tables.{builtin_d_of, builtin_of, operator_of, standard_end_of, standard_of}

-- Where the reading stands in the name.
abbrev pub position_of : State → ℕ
position_of s = s.name_length - length s.rest

-- Any byte is read.
abbrev pub skipped : State → Option State
skipped s = option_map (λ rest. with_rest s rest) (elim s.rest [ [] ↦ None | byte ∷ rest ↦ Some rest ])

-- One byte is read.
abbrev pub byte_read : ℕ → State → Option State
byte_read byte s = option_map (λ rest. with_rest s rest) (after byte s.rest)

-- No such byte comes next.
abbrev pub not_before : ℕ → State → Option State
not_before byte s = elim (after byte s.rest) [ None ↦ Some s | Some rest ↦ None ]

-- A piece is made of bytes that are written.
unfoldable pub text_made : List ℕ → State → Option State
text_made bytes s = appended bytes s.text >>= (λ text.
    Some (with_piece (with_text s text) (plain (record { start = length s.text; end = length text }))))

-- A piece that constructors are called by.
abbrev pub named : Span → Piece
named span = record (plain span) { base = span }

-- The name of an unnamed namespace.
abbrev pub is_anonymous : List ℕ → Bool
is_anonymous name = starts_with nat_eq name (codes "_GLOBAL__N")

-- A name at a place, of some bytes, is a piece.
unfoldable pub name_made : ℕ → List ℕ → State → Option State
name_made at name s =
    if is_anonymous name then text_made (codes "(anonymous namespace)") s else
    Some (with_piece s (named (record { start = at; end = at + length name })))

-- A name with its length before it is read (<source-name>).
unfoldable pub source_name_read : State → Option State
source_name_read s = number_of Decimal s.rest >>= (λ found.
    if found.0 == 0 then None else
    if nat_lt (length found.1) found.0 then None else
    name_made (s.name_length - length found.1) (take found.0 found.1) (with_rest s (drop found.0 found.1)))

-- A number is a piece.
unfoldable pub number_made : ℕ → State → Option State
number_made number s = decimal_appended number s.text >>= (λ text.
    Some (with_piece (with_text s text) (plain (record { start = length s.text; end = length text }))))

unfoldable pub ordinal_read : State → Option State
ordinal_read s = ordinal_of Decimal s.rest >>= (λ found. number_made (found.0 + 1) (with_rest s found.1))

unfoldable pub sequence_read : State → Option State
sequence_read s = ordinal_of Base36 s.rest >>= (λ found. number_made found.0 (with_rest s found.1))

-- A name of the standard library, of which the last part begins behind std::.
abbrev pub standard_piece : ℕ → ℕ → ℕ → Piece
standard_piece start end last = record (plain (record { start = start; end = end })) { base = record { start = start + 5; end = start + last } }

unfoldable pub standard_made : ℕ → State → Option State
standard_made letter s = standard_of letter >>= (λ bytes. standard_end_of letter >>= (λ last.
    appended bytes s.text >>= (λ text.
    Some (with_piece (with_text s text) (standard_piece (length s.text) (length text) last)))))

abbrev pub standard_read : State → Option State
standard_read s = elim s.rest [ [] ↦ None | letter ∷ rest ↦ standard_made letter (with_rest s rest) ]

-- Its template parameters, if it has any, stand for the same as here.
abbrev pub is_usable : Span → Piece → Bool
is_usable parameters piece = (piece.depends.start == piece.depends.end) || (piece.depends.start == parameters.start)

unfoldable pub substitution_read : State → Option State
substitution_read s = ordinal_of Base36 s.rest >>= (λ found. slice_get s.remembered found.0 >>= (λ piece.
    if is_usable s.parameters piece then Some (with_piece (with_rest s found.1) piece) else None))

abbrev pub argument_kind : Kind → Kind
argument_kind kinds.List = kinds.Pack
argument_kind kinds.Plain = kinds.Plain
argument_kind kinds.Name = kinds.Name
argument_kind kinds.Special = kinds.Special
argument_kind kinds.Template = kinds.Template
argument_kind kinds.Function = kinds.Function
argument_kind kinds.Array = kinds.Array
argument_kind kinds.Reference = kinds.Reference
argument_kind kinds.RvalueReference = kinds.RvalueReference
argument_kind kinds.Pack = kinds.Pack

-- What a template parameter stands for: an argument, of which a list is a pack.
abbrev pub argument : Span → Piece → Piece
argument parameters piece = record piece { depends = parameters; kind = argument_kind piece.kind }

unfoldable pub parameter_read : State → Option State
parameter_read s = ordinal_of Decimal s.rest >>= (λ found.
    if nat_lt found.0 (s.parameters.end - s.parameters.start) then
    (slice_get s.elements (s.parameters.start + found.0) >>= (λ piece.
    Some (with_piece (with_rest s found.1) (argument s.parameters piece))))
    else None)

abbrev pub builtin_read : State → Option State
builtin_read s = elim s.rest [ [] ↦ None | code ∷ rest ↦ builtin_of code >>= (λ bytes. text_made bytes (with_rest s rest)) ]

abbrev pub builtin_d_read : State → Option State
builtin_d_read s = elim s.rest [ [] ↦ None | code ∷ rest ↦ builtin_d_of code >>= (λ bytes. text_made bytes (with_rest s rest)) ]

abbrev pub operator_read : State → Option State
operator_read s = elim s.rest [
  | [] ↦ None
  | first ∷ rest ↦ elim rest [
    | [] ↦ None
    | second ∷ rest' ↦ operator_of first second >>= (λ bytes. text_made bytes (with_rest s rest'))
  ]
]

-- A piece of what is read from here on begins.
abbrev pub from_here : State → Option State
from_here s = Some (with_piece s (plain (record { start = position_of s; end = position_of s })))

-- It ends.
unfoldable pub up_to_here : State → Option State
up_to_here s = top_of 0 s.pieces >>= (λ piece.
    replaced 1 (record piece { left = record { start = piece.left.start; end = position_of s } }) s.pieces >>= (λ pieces.
    Some (record s { pieces = pieces })))
