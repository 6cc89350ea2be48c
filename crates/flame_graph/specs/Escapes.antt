-- Names as text of XML (Extensible Markup Language 1.0, 2.2 and 2.4), and their colors.
use Rattle.std.specs.Prelude.{ℕ, ◌+◌, ◌*◌, ◌%◌, ◌==◌, ◌&&◌, List, [], ◌∷◌, ◌++◌, codes, nat_le, if◌then◌else◌}
use Rattle.std.specs.List.{flat_map, fold}
use Rattle.line_parts.specs.Parts.{hex_of}

-- A byte: printable ASCII as it is, but for what XML reads as markup, and any other in hexadecimal.
abbrev pub escaped_byte : ℕ → List ℕ
escaped_byte byte =
    if byte == 38 then codes "&amp;" else
    if byte == 60 then codes "&lt;" else
    if byte == 62 then codes "&gt;" else
    if byte == 34 then codes "&quot;" else
    if byte == 39 then codes "&#39;" else
    if nat_le 32 byte && nat_le byte 126 then byte ∷ [] else
    (codes "\\x" ++ hex_of 2 byte)

-- A name.
abbrev pub escaped : List ℕ → List ℕ
escaped name = flat_map escaped_byte name

-- One of 24 colors, by the remainder of a name as a number in base 31.
abbrev pub color_of : List ℕ → ℕ
color_of name = fold (λ hash byte. (hash * 31 + byte) % 65521) 0 name % 24
