-- Numbers in names by the scheme v0 (RFC 2603, <base-62-number> and <const-data>).
use Rattle.std.specs.Prelude.{ℕ, ◌+◌, ◌-◌, ◌*◌, ◌==◌, ◌&&◌, List, [], ◌∷◌, take, drop, nat_le, nat_lt, if◌then◌else◌, Option, Some, None, position}
use Rattle.symbol_text.specs.Numbers.{after}
use Rattle.symbol_text.specs.Texts.{◌>>=◌}
use Rattle.rust_names.specs.declared.numbers.TheConstants.{DIGITS_LIMIT, HEX_LIMIT}
use Rattle.rust_names.specs.Escapes.{hex_of}
use Rattle.rust_names.specs.Legacy.{all_hex}

-- The value of a digit to the base 62: 0 to 9, a to z, A to Z.
abbrev pub digit_of : ℕ → Option ℕ
digit_of byte =
    if nat_le 48 byte && nat_le byte 57 then Some (byte - 48) else
    if nat_le 97 byte && nat_le byte 122 then Some (byte - 97 + 10) else
    if nat_le 65 byte && nat_le byte 90 then Some (byte - 65 + 36) else
    None

-- The number that goes on with the digits up to an underscore, plus 1, and what follows it.
abbrev pub digits_from : ℕ → List ℕ → Option (ℕ × List ℕ)
digits_from number [] = None
digits_from number (byte ∷ bytes) =
    if byte == 95 then Some (number + 1, bytes) else
    (digit_of byte >>= (λ value.
    if nat_lt DIGITS_LIMIT number then None else digits_from (number * 62 + value) bytes))

-- The number that the bytes begin with, and what follows it.
abbrev pub number_of : List ℕ → Option (ℕ × List ℕ)
number_of [] = None
number_of (first ∷ rest) = if first == 95 then Some (0, rest) else digits_from 0 (first ∷ rest)

-- The number that follows a letter, plus 1, or 0 if another letter is there; and what follows it.
abbrev pub counted_of : ℕ → List ℕ → Option (ℕ × List ℕ)
counted_of letter bytes = elim (after letter bytes) [
  | None ↦ Some (0, bytes)
  | Some rest ↦ number_of rest >>= (λ found. Some (found.0 + 1, found.1))
]

-- Where the first underscore stands.
unfoldable pub underscore_of : List ℕ → Option ℕ
underscore_of bytes = position (λ byte. byte == 95) bytes

-- The hexadecimal digits up to an underscore, and what follows it.
abbrev pub nibbles_of : List ℕ → Option (List ℕ × List ℕ)
nibbles_of bytes = underscore_of bytes >>= (λ end.
    if all_hex (take end bytes) then Some (take end bytes, drop (end + 1) bytes) else None)

-- The number that goes on with hexadecimal digits, if it takes 64 bits at most.
abbrev pub hex_value_from : ℕ → List ℕ → Option ℕ
hex_value_from number [] = Some number
hex_value_from number (byte ∷ bytes) = hex_of byte >>= (λ value.
    if nat_le HEX_LIMIT number then None else hex_value_from (number * 16 + value) bytes)

abbrev pub hex_value_of : List ℕ → Option ℕ
hex_value_of digits = hex_value_from 0 digits
