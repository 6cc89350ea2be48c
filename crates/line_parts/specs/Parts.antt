-- Parts of lines, as bytes of ASCII text, and what a call appends to a text.
use Rattle.std.specs.Prelude.{◌≡◌, ℕ, ◌-◌, ℤ, pos, negsuc, List, ◌++◌, length, replicate, codes, decimal, false, Result, OnOk, Vec}
use Rattle.std.specs.Fmt.{digits, signed_decimal}
use Rattle.std.specs.Global.{Global}

-- a call that returned Ok appended these bytes
abbrev pub Pushes : {T E : Type 0} → Result T E → Vec ℕ Global → Vec ℕ Global → List ℕ → Type 0
Pushes result old new bytes = OnOk result (new.items ≡ old.items ++ bytes)

-- a text, the spaces that bring it to a width, and one more
abbrev pub cell_of : ℕ → List ℕ → List ℕ
cell_of width text = text ++ replicate (width - length text) 32 ++ codes " "

-- a number in hexadecimal digits, after the zeros that bring it to a width
abbrev pub hex_of : ℕ → ℕ → List ℕ
hex_of width number = replicate (width - length (digits 16 false number)) 48 ++ digits 16 false number

-- a number with its sign, which may be a plus
abbrev pub with_sign : ℤ → List ℕ
with_sign (pos n) = codes "+" ++ decimal n
with_sign (negsuc n) = signed_decimal (negsuc n)
