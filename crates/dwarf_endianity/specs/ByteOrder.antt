-- Numbers of several bytes in either byte order; a section has the order of its file, which the ELF header gives.
use Rattle.std.specs.Prelude.{ℕ, ◌+◌, ◌*◌, ◌^◌, List, [], ◌∷◌, length, Bool, true, false, not}
use Rattle.std.specs.Int.{bytes_low_first, bytes_high_first}

-- the number in some bytes, the least significant byte first
abbrev pub little_endian : List ℕ → ℕ
little_endian [] = 0
little_endian (b ∷ bs) = b + 256 * little_endian bs

-- the number in some bytes, the most significant byte first
abbrev pub big_endian : List ℕ → ℕ
big_endian [] = 0
big_endian (b ∷ bs) = b * 256 ^ length bs + big_endian bs

-- the number in some bytes: the most significant byte is the first if the order is big-endian, else the last
abbrev pub number_of : Bool → List ℕ → ℕ
number_of true bytes = big_endian bytes
number_of false bytes = little_endian bytes

-- the n bytes of a number
abbrev pub bytes_of : Bool → ℕ → ℕ → List ℕ
bytes_of true n x = bytes_high_first n x
bytes_of false n x = bytes_low_first 0 n x

-- both orders are big-endian, or neither is
abbrev pub same_order : Bool → Bool → Bool
same_order true big = big
same_order false big = not big
