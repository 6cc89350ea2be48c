-- Numbers in bytes, lowest byte first, and bits of numbers.
use Rattle.std.specs.Prelude.{ℕ, ◌/◌, ◌%◌, ◌==◌, Bool, List, take, drop}
use Rattle.dwarf_endianity.specs.ByteOrder.{little_endian}

-- The number in so many bytes from an offset on.
unfoldable pub number_at : ℕ → List ℕ → ℕ → ℕ
number_at size bytes offset = little_endian (take size (drop offset bytes))

-- A number has this bit, which is a power of 2.
abbrev pub has_bit : ℕ → ℕ → Bool
has_bit number bit = number / bit % 2 == 1
