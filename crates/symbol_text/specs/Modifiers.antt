-- Types that are made of another type (Itanium C++ ABI, 5.1.5.1 and 5.1.5.3), as C++ declares them.
use Rattle.std.specs.Prelude.{ℕ, zero, suc, ◌-◌, ◌+◌, Bool, true, false, List, [], ◌∷◌, ◌++◌, length, slice_get, slice_range, codes, nat_eq, nat_le, nat_lt, if◌then◌else◌, Option, Some, None}
use Rattle.std.specs.List.{ends_with}
use Rattle.symbol_text.specs.declared.piece.Kind.{Kind}
use Rattle.symbol_text.specs.declared.piece.Kind.TheVariants.{Plain, Name, Special, Template, Function, Array, Reference, RvalueReference}
use Rattle.symbol_text.specs.declared.piece.Piece.{Piece}
use Rattle.symbol_text.specs.declared.piece.Span.{Span}
use Rattle.symbol_text.specs.declared.piece.TheConstants.{NOWHERE}
use Rattle.symbol_text.specs.declared.modifiers.Modifier.{Modifier}
use Rattle.symbol_text.specs.declared.modifiers.TheConstants.{ELEMENT_LIMIT}
use Rattle.symbol_text.specs.declared.modifiers.Modifier.TheVariants as modifiers
use Rattle.symbol_text.specs.Texts.{◌>>=◌, appended, copied}

-- What a modifier adds to the text of a type.
abbrev pub words_of : Modifier → List ℕ
words_of modifiers.Pointer = codes "*"
words_of modifiers.Reference = codes "&"
words_of modifiers.RvalueReference = codes "&&"
words_of modifiers.Const = codes " const"
words_of modifiers.Volatile = codes " volatile"
words_of modifiers.Restrict = codes " restrict"
words_of modifiers.Complex = codes " _Complex"
words_of modifiers.Imaginary = codes " _Imaginary"

-- A declarator of a type that goes on behind it stands in parentheses.
abbrev pub opening_of : Kind → List ℕ
opening_of Function = codes "("
opening_of Array = codes " ("
opening_of _ = []

abbrev pub closing_of : Kind → List ℕ
closing_of Function = codes ")"
closing_of Array = codes ")"
closing_of _ = []

-- A stretch of a text from one length up to another.
abbrev pub between : List ℕ → List ℕ → Span
between from to = record { start = length from; end = length to }

-- A type that is declared with a mark, and the text with it.
unfoldable pub declared : Piece → List ℕ → Kind → List ℕ → Option (Piece × List ℕ)
declared piece mark kind text = do
  before ← copied piece.left text
  opened ← appended (opening_of piece.kind) before
  marked ← appended mark opened
  closed ← appended (closing_of piece.kind) marked
  whole ← copied piece.right closed
  Some (record { left = between text marked; right = between marked whole; base = NOWHERE; elements = NOWHERE; depends = piece.depends; kind = kind }, whole)

-- A part of a text with words behind it, and the text with it.
unfoldable pub extended : Span → List ℕ → List ℕ → Option (Span × List ℕ)
extended span more text = do
  before ← copied span text
  whole ← appended more before
  Some (between text whole, whole)

-- A reference to an rvalue, as one to an lvalue.
abbrev pub collapsed : Piece → Piece
collapsed piece = record piece { left = record { start = piece.left.start; end = piece.left.end - 1 }; kind = Reference }

-- A reference (C++20, [dcl.ref]: references to references collapse).
unfoldable pub referred : Piece → List ℕ → Option (Piece × List ℕ)
referred piece text = elim piece.kind [
  | Reference ↦ Some (piece, text)
  | RvalueReference ↦ Some (collapsed piece, text)
  | _ ↦ declared piece (codes "&") Reference text
]

-- A reference to an rvalue.
unfoldable pub rvalue_referred : Piece → List ℕ → Option (Piece × List ℕ)
rvalue_referred piece text = elim piece.kind [
  | Reference ↦ Some (piece, text)
  | RvalueReference ↦ Some (piece, text)
  | _ ↦ declared piece (codes "&&") RvalueReference text
]

-- What a type is with a qualifier, as far as others ask for it.
abbrev pub qualified_kind_of : Kind → Kind
qualified_kind_of Function = Function
qualified_kind_of Array = Array
qualified_kind_of Reference = Reference
qualified_kind_of RvalueReference = RvalueReference
qualified_kind_of _ = Plain

-- A part of a text ends with some bytes.
abbrev pub ends_in : Span → List ℕ → List ℕ → Bool
ends_in span end text =
    if nat_lt span.end span.start then false else
    if nat_lt (length text) span.end then false else
    ends_with nat_eq (slice_range text span.start span.end) end

abbrev pub is_function : Kind → Bool
is_function Function = true
is_function _ = false

-- A type with a qualifier.
unfoldable pub qualified : Piece → List ℕ → List ℕ → Option (Piece × List ℕ)
qualified piece more text =
    if is_function piece.kind then (extended piece.right more text >>= (λ made. Some (record piece { right = made.0 }, made.1))) else
    if ends_in piece.left more text then Some (piece, text) else
    (extended piece.left more text >>= (λ made. Some (record piece { left = made.0; kind = qualified_kind_of piece.kind }, made.1)))

-- A type that is made of another type.
unfoldable pub modified : Modifier → Piece → List ℕ → Option (Piece × List ℕ)
modified modifiers.Pointer piece text = declared piece (codes "*") Plain text
modified modifiers.Reference piece text = referred piece text
modified modifiers.RvalueReference piece text = rvalue_referred piece text
modified modifiers.Const piece text = qualified piece (words_of modifiers.Const) text
modified modifiers.Volatile piece text = qualified piece (words_of modifiers.Volatile) text
modified modifiers.Restrict piece text = qualified piece (words_of modifiers.Restrict) text
modified modifiers.Complex piece text = qualified piece (words_of modifiers.Complex) text
modified modifiers.Imaginary piece text = qualified piece (words_of modifiers.Imaginary) text

-- The type that is made of one element, behind all others, and the text with it. There may be so many elements.
unfoldable pub modified_at : Modifier → ℕ → List Piece → List ℕ → Option (List Piece × List ℕ)
modified_at modifier at elements text =
    if nat_le ELEMENT_LIMIT (length elements) then None else
    (slice_get elements at >>= (λ element.
    modified modifier element text >>= (λ made.
    Some (elements ++ made.0 ∷ [], made.1))))

-- The types that are made of some elements, behind all others, and the text with them.
abbrev pub modified_all : Modifier → ℕ → ℕ → List Piece → List ℕ → Option (List Piece × List ℕ)
modified_all modifier at zero elements text = Some (elements, text)
modified_all modifier at (suc count) elements text =
    modified_at modifier at elements text >>= (λ made. modified_all modifier (at + 1) count made.0 made.1)

-- The types of the elements of a pack.
abbrev pub pack_modified : Modifier → Span → List Piece → List ℕ → Option (List Piece × List ℕ)
pack_modified modifier pack elements text = modified_all modifier pack.start (pack.end - pack.start) elements text
