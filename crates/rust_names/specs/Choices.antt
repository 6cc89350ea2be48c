-- Which production of a rule is taken: the first whose `When` fits the next two bytes.
use Rattle.std.specs.Prelude.{ℕ, ◌==◌, ◌&&◌, ◌||◌, Bool, true, false, List, Option, Some, None, nat_le, position}
use Rattle.rust_names.specs.declared.symbol.Look.{Look}
use Rattle.rust_names.specs.declared.symbol.Look.TheVariants as looks
use Rattle.rust_names.specs.declared.symbol.Symbol.{Symbol}
use Rattle.rust_names.specs.declared.symbol.Symbol.TheVariants.{When}

-- A byte from one up to another.
abbrev pub in_range : ℕ → ℕ → ℕ → Bool
in_range low high byte = nat_le low byte && nat_le byte high

-- The next byte is such.
abbrev pub fits : Look → Option ℕ → Bool
fits looks.Any next = true
fits looks.End None = true
fits looks.End (Some next) = false
fits (looks.Byte byte) None = false
fits (looks.Byte byte) (Some next) = next == byte
fits looks.Lower None = false
fits looks.Lower (Some next) = in_range 97 122 next
fits looks.Letter None = false
fits looks.Letter (Some next) = in_range 97 122 next || in_range 65 90 next

-- A symbol begins a production that fits the next two bytes.
abbrev pub begins : Option ℕ → Option ℕ → Symbol → Bool
begins first second (When one two) = fits one first && fits two second
begins first second _ = false

-- Where in a rule's symbols the production stands that is taken.
abbrev pub entry_of : Option ℕ → Option ℕ → List Symbol → Option ℕ
entry_of first second symbols = position (begins first second) symbols
