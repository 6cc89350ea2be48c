-- Decimal numbers.
use Rattle.std.specs.Prelude.{ℕ, ◌+◌, ◌-◌, ◌*◌, ◌^◌, ◌&&◌, nat_le, nat_lt, if◌then◌else◌, List, [], ◌∷◌, Option, Some, None, option_and_then}

-- the value of a decimal digit
abbrev pub digit_of : ℕ → Option ℕ
digit_of byte = if nat_le 48 byte && nat_le byte 57 then Some (byte - 48) else None

-- a number of 32 bits
abbrev pub if_fits : ℕ → Option ℕ
if_fits number = if nat_lt number (2 ^ 32) then Some number else None

-- a number with a digit more
abbrev pub number_with : ℕ → ℕ → Option ℕ
number_with number byte = option_and_then (λ digit. if_fits (number * 10 + digit)) (digit_of byte)

-- a number with more digits
abbrev pub number_from : ℕ → List ℕ → Option ℕ
number_from number [] = Some number
number_from number (byte ∷ bytes) = option_and_then (λ next. number_from next bytes) (number_with number byte)

-- the number that decimal digits say, one at least
abbrev pub number_of : List ℕ → Option ℕ
number_of [] = None
number_of (byte ∷ bytes) = number_from 0 (byte ∷ bytes)
