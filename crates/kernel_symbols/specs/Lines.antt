-- The lines of a list of a kernel's symbols (Linux, kernel/kallsyms.c: s_show).
use Rattle.std.specs.Prelude.{ℕ, ◌+◌, ◌-◌, ◌*◌, ◌^◌, ◌==◌, ◌&&◌, ◌||◌, Bool, nat_le, nat_lt, if◌then◌else◌, List, [], ◌∷◌, take, drop, position, Option, Some, None, option_and_then, option_map}
use Rattle.std.specs.List.{filter_map}

-- ---- lines

-- lines, of which the first begins with a byte more
abbrev pub with_byte : ℕ → List (List ℕ) → List (List ℕ)
with_byte byte [] = (byte ∷ []) ∷ []
with_byte byte (line ∷ lines) = (byte ∷ line) ∷ lines

-- the lines of a list, with a newline (10) between two of them
abbrev pub lines_of : List ℕ → List (List ℕ)
lines_of [] = [] ∷ []
lines_of (byte ∷ bytes) = if byte == 10 then [] ∷ lines_of bytes else with_byte byte (lines_of bytes)

-- A line, and what follows it.
pub record LineParts : Type 0 where
  pub bytes : List ℕ
  pub rest : List ℕ

-- the line that a list begins with, which ends before this place, or else with the list
abbrev pub line_before : List ℕ → Option ℕ → LineParts
line_before list (Some size) = record { bytes = take size list; rest = drop (size + 1) list }
line_before list None = record { bytes = list; rest = [] }

-- the first line of a list
abbrev pub first_line : List ℕ → LineParts
first_line list = line_before list (position (λ byte. byte == 10) list)

-- ---- numbers

-- the value of a hexadecimal digit
abbrev pub digit_of : ℕ → Option ℕ
digit_of byte =
    if nat_le 48 byte && nat_le byte 57 then Some (byte - 48)
    else if nat_le 97 byte && nat_le byte 102 then Some (byte - 97 + 10)
    else None

-- a number of 64 bits
abbrev pub if_fits : ℕ → Option ℕ
if_fits number = if nat_lt number (2 ^ 64) then Some number else None

-- a number with a digit more
abbrev pub number_with : ℕ → ℕ → Option ℕ
number_with number byte = option_and_then (λ digit. if_fits (number * 16 + digit)) (digit_of byte)

-- The address that a line begins with, and what follows the space (32) behind it.
pub record AddressParts : Type 0 where
  pub number : ℕ
  pub rest : List ℕ

-- the same, with a number before the bytes that are left
abbrev pub address_from : ℕ → List ℕ → Option AddressParts
address_from number [] = None
address_from number (byte ∷ bytes) =
    if byte == 32 then Some (record { number = number; rest = bytes })
    else option_and_then (λ next. address_from next bytes) (number_with number byte)

abbrev pub address_in : List ℕ → Option AddressParts
address_in line = address_from 0 line

-- ---- symbols

-- A symbol: its address and its name.
pub record SymbolParts : Type 0 where
  pub address : ℕ
  pub name : List ℕ

-- symbols of a type have code: t, T, w and W
abbrev pub is_code : ℕ → Bool
is_code letter = letter == 116 || letter == 84 || letter == 119 || letter == 87

-- the name behind the letter of a type with code and a space
abbrev pub name_behind : List ℕ → Option (List ℕ)
name_behind (letter ∷ space ∷ name) = if space == 32 && is_code letter then Some name else None
name_behind _ = None

-- the bytes before a place, or all
abbrev pub before_place : List ℕ → Option ℕ → List ℕ
before_place bytes (Some size) = take size bytes
before_place bytes None = bytes

-- the bytes before the first one of a kind, or all
abbrev pub before_byte : List ℕ → ℕ → List ℕ
before_byte bytes wanted = before_place bytes (position (λ byte. byte == wanted) bytes)

-- the symbol behind an address that isn't 0, whose name ends before a tabulator (9)
abbrev pub symbol_behind : AddressParts → Option SymbolParts
symbol_behind found =
    if found.number == 0 then None
    else option_map (λ name. record { address = found.number; name = before_byte name 9 }) (name_behind found.rest)

-- the symbol in a line: its address, its type and its name
abbrev pub symbol_in : List ℕ → Option SymbolParts
symbol_in line = option_and_then symbol_behind (address_in line)

-- the symbols of a list, in its order: other lines are passed over
abbrev pub symbols_of : List ℕ → List SymbolParts
symbols_of list = filter_map symbol_in (lines_of list)
