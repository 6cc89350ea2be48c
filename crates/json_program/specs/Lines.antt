-- Parts of the lines that a run writes, as bytes of ASCII text.
use Rattle.std.specs.Prelude.{ℕ, List, [], ◌∷◌, ◌++◌, codes, false}
use Rattle.std.specs.Fmt.{digits}

-- 0x and the hexadecimal digits of a number, in lower case and without leading zeros
abbrev pub hexadecimal : ℕ → List ℕ
hexadecimal number = codes "0x" ++ digits 16 false number

-- a text and the line feed that ends its line
abbrev pub line : List ℕ → List ℕ
line text = text ++ 10 ∷ []
