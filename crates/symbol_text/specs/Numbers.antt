-- Numbers in names (Itanium C++ ABI, 5.1.2, <number>, and 5.1.10, <seq-id>).
use Rattle.std.specs.Prelude.{◌≡◌, ℕ, ◌+◌, ◌-◌, ◌*◌, ◌==◌, ◌&&◌, List, [], ◌∷◌, nat_le, if◌then◌else◌, Option, Some, None, option_map, option_and_then}
use Rattle.std.specs.Borrow.{Bor}
use Rattle.symbol_text.specs.declared.numerals.Numerals.{Numerals}
use Rattle.symbol_text.specs.declared.numerals.Numerals.TheVariants.{Decimal, Base36}
use Rattle.symbol_text.specs.declared.numerals.TheConstants.{NUMBER_LIMIT}

-- What a call found, and the bytes after it, are what a definition says.
abbrev pub SomeOf : {X : Type 0} → Option (X × Bor (List ℕ)) → Option (X × List ℕ) → Type 0
SomeOf result expected = option_map (λ found. (found.0, found.1.now)) result ≡ expected

-- How many digits there are.
abbrev pub radix_of : Numerals → ℕ
radix_of Decimal = 10
radix_of Base36 = 36

-- The value of a letter as a digit.
abbrev pub letter_of : Numerals → ℕ → Option ℕ
letter_of Decimal byte = None
letter_of Base36 byte = if nat_le 65 byte && nat_le byte 90 then Some (byte - 65 + 10) else None

-- The value of a digit.
abbrev pub digit_of : Numerals → ℕ → Option ℕ
digit_of numerals byte = if nat_le 48 byte && nat_le byte 57 then Some (byte - 48) else letter_of numerals byte

-- The number that goes on with the digits at the front of the bytes, and the bytes after it.
abbrev pub number_from : Numerals → ℕ → List ℕ → Option (ℕ × List ℕ)
number_from numerals number [] = Some (number, [])
number_from numerals number (byte ∷ bytes) = elim (digit_of numerals byte) [
  | None ↦ Some (number, byte ∷ bytes)
  | Some digit ↦ if nat_le NUMBER_LIMIT number then None else number_from numerals (number * radix_of numerals + digit) bytes
]

-- The number that the bytes begin with, and the bytes after it.
abbrev pub number_of : Numerals → List ℕ → Option (ℕ × List ℕ)
number_of numerals [] = None
number_of numerals (byte ∷ bytes) = option_and_then (λ digit. number_from numerals 0 (byte ∷ bytes)) (digit_of numerals byte)

-- The bytes after one byte, if they begin with it.
abbrev pub after : ℕ → List ℕ → Option (List ℕ)
after byte [] = None
after byte (first ∷ rest) = if first == byte then Some rest else None

-- A number that an underscore ends, plus 1.
abbrev pub ended : ℕ × List ℕ → Option (ℕ × List ℕ)
ended found = option_map (λ rest. (found.0 + 1, rest)) (after 95 found.1)

-- The number that an underscore ends, plus 1, or 0 if there is only the underscore; and the bytes after it.
abbrev pub ordinal_of : Numerals → List ℕ → Option (ℕ × List ℕ)
ordinal_of numerals [] = None
ordinal_of numerals (first ∷ rest) =
    if first == 95 then Some (0, rest) else option_and_then ended (number_of numerals (first ∷ rest))
