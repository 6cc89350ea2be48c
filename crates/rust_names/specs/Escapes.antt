-- Characters that can't stand in a symbol, as the legacy scheme of Rust writes them: `$LT$` and such, and points.
use Rattle.std.specs.Prelude.{ℕ, zero, suc, ◌+◌, ◌-◌, ◌*◌, ◌==◌, ◌&&◌, ◌||◌, not, List, [], ◌∷◌, length, take, drop, codes, nat_le, nat_lt, if◌then◌else◌, Option, Some, None, position}
use Rattle.symbol_text.specs.Texts.{◌>>=◌, appended}

-- The value of a small hexadecimal digit.
abbrev pub hex_of : ℕ → Option ℕ
hex_of byte =
    if nat_le 48 byte && nat_le byte 57 then Some (byte - 48) else
    if nat_le 97 byte && nat_le byte 102 then Some (byte - 97 + 10) else
    None

-- The character of a name of two letters: SP, BP, RF, LT, GT, LP and RP.
abbrev pub letters_escape : ℕ → Option ℕ
letters_escape code =
    if code == 0x5350 then Some 64 else
    if code == 0x4250 then Some 42 else
    if code == 0x5246 then Some 38 else
    if code == 0x4c54 then Some 60 else
    if code == 0x4754 then Some 62 else
    if code == 0x4c50 then Some 40 else
    if code == 0x5250 then Some 41 else
    None

abbrev pub named_escape : ℕ → ℕ → Option ℕ
named_escape first second = letters_escape (first * 256 + second)

-- A character that can be printed.
abbrev pub printable : ℕ → Option ℕ
printable byte = if nat_lt byte 0x20 || nat_le 0x7f byte then None else Some byte

-- A character by the two digits of its code.
abbrev pub coded_escape : ℕ → ℕ → Option ℕ
coded_escape second third = hex_of second >>= (λ high. hex_of third >>= (λ low. printable (high * 16 + low)))

-- The character that stands between two dollars: `C` for a comma, two letters, or `u` with the code.
abbrev pub escape_of : List ℕ → Option ℕ
escape_of [] = None
escape_of (first ∷ []) = if first == 67 then Some 44 else None
escape_of (first ∷ second ∷ []) = named_escape first second
escape_of (first ∷ second ∷ third ∷ rest) =
    if not (first == 117) || nat_lt 0 (length rest) then None else coded_escape second third

-- Where the next dollar stands.
unfoldable pub dollar_of : List ℕ → Option ℕ
dollar_of bytes = position (λ byte. byte == 36) bytes

-- A text with what a dollar begins, and what follows it.
unfoldable pub escaped_at : List ℕ → List ℕ → Option (List ℕ × List ℕ)
escaped_at rest text =
    dollar_of rest >>= (λ end.
    escape_of (take end rest) >>= (λ byte.
    appended (byte ∷ []) text >>= (λ whole. Some (drop (end + 1) rest, whole))))

-- A text with what a point begins, and what follows it.
unfoldable pub point_at : List ℕ → List ℕ → Option (List ℕ × List ℕ)
point_at [] text = appended (codes "-") text >>= (λ whole. Some ([], whole))
point_at (next ∷ after) text =
    if next == 46 then (appended (codes "::") text >>= (λ whole. Some (after, whole)))
    else (appended (codes "-") text >>= (λ whole. Some (next ∷ after, whole)))

-- A text with the next character of a part, and what follows it.
unfoldable pub next_of : List ℕ → List ℕ → Option (List ℕ × List ℕ)
next_of [] text = Some ([], text)
next_of (first ∷ rest) text =
    if first == 36 then escaped_at rest text else
    if first == 46 then point_at rest text else
    (appended (first ∷ []) text >>= (λ whole. Some (rest, whole)))

-- A part without the underscore that stands before a dollar at its beginning.
abbrev pub first_of : List ℕ → List ℕ
first_of [] = []
first_of (first ∷ []) = first ∷ []
first_of (first ∷ second ∷ rest) = if (first == 95) && (second == 36) then second ∷ rest else first ∷ second ∷ rest

-- A text with a part of so many characters at most.
abbrev pub unescaped : ℕ → List ℕ → List ℕ → Option (List ℕ)
unescaped zero bytes text = if nat_lt 0 (length bytes) then None else Some text
unescaped (suc count) bytes text = next_of bytes text >>= (λ found. unescaped count found.0 found.1)
