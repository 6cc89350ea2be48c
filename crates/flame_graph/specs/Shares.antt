-- Parts of a whole, as decimal fractions in percent.
use Rattle.std.specs.Prelude.{ℕ, ◌-◌, ◌*◌, ◌/◌, ◌%◌, List, ◌++◌, length, replicate, codes, decimal, nat_lt, if◌then◌else◌}

-- A number with so many decimal digits at least.
abbrev pub padded : ℕ → ℕ → List ℕ
padded number size = replicate (size - length (decimal number)) 48 ++ decimal number

-- A part of a whole, in units of which 100 times as many are the whole, rounded down; 0 if there is no whole.
abbrev pub scaled : ℕ → ℕ → ℕ → ℕ
scaled part whole unit = if nat_lt 0 whole then part * unit * 100 / whole else 0

-- A part of a whole in percent, with so many digits after the point, if ten to their number is the unit.
unfoldable pub share_text : ℕ → ℕ → ℕ → ℕ → List ℕ
share_text part whole unit digits =
    decimal (scaled part whole unit / unit) ++ codes "." ++ padded (scaled part whole unit % unit) digits

-- With two digits, as it is shown.
abbrev pub percent_text : ℕ → ℕ → List ℕ
percent_text part whole = share_text part whole 100 2

-- With four, as a place or a width.
abbrev pub place_text : ℕ → ℕ → List ℕ
place_text part whole = share_text part whole 10000 4
