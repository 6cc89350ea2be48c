-- Texts, and what appending to them gives.
use Rattle.std.specs.Prelude.{◌≡◌, ℕ, ◌-◌, ◌&&◌, List, ◌++◌, length, slice_get, slice_range, nat_le, nat_lt, if◌then◌else◌, Option, Some, None, option_and_then, Result, Ok, Err, decimal}
use Rattle.symbol_text.specs.declared.failure.Failure.{Failure}
use Rattle.symbol_text.specs.declared.failure.Failure.TheVariants.{OutOfMemory, NotUnderstood}
use Rattle.symbol_text.specs.declared.piece.Piece.{Piece}
use Rattle.symbol_text.specs.declared.piece.Span.{Span}
use Rattle.symbol_text.specs.declared.writing.TheConstants.{TEXT_LIMIT}

infixl 10 ◌>>=◌
abbrev pub ◌>>=◌ : {A B : Type 0} → Option A → (A → Option B) → Option B
o >>= f = option_and_then f o

-- What a call returned, seen by a view, is what a definition gives, unless memory ran out.
abbrev pub Gives : {X Y : Type 0} → (X → Y) → Result X Failure → Option Y → Type 0
Gives view (Ok x) expected = expected ≡ Some (view x)
Gives view (Err OutOfMemory) expected = Unit {0}
Gives view (Err NotUnderstood) expected = expected ≡ None

-- A text with bytes behind it.
unfoldable pub appended : List ℕ → List ℕ → Option (List ℕ)
appended bytes text = if nat_lt (TEXT_LIMIT - length text) (length bytes) then None else Some (text ++ bytes)

-- A text with a part of it once more behind it.
unfoldable pub copied : Span → List ℕ → Option (List ℕ)
copied span text =
    if nat_lt span.end span.start then None else
    if nat_lt (length text) span.end then None else
    if nat_lt (TEXT_LIMIT - length text) (span.end - span.start) then None else
    Some (text ++ slice_range text span.start span.end)

-- A text with both parts of a piece behind it.
unfoldable pub whole_copied : Piece → List ℕ → Option (List ℕ)
whole_copied piece text = copied piece.left text >>= copied piece.right

-- A text with a number in decimal digits behind it.
unfoldable pub decimal_appended : ℕ → List ℕ → Option (List ℕ)
decimal_appended number text = appended (decimal number) text

-- The last byte of a text.
abbrev pub last_of : List ℕ → Option ℕ
last_of text = slice_get text (length text - 1)
