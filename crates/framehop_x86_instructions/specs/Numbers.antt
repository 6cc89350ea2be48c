-- Numbers in an instruction, lowest byte first, and in two's complement.
--
-- Intel SDM, volume 2, 2.1.5, 2.2.1.3 (displacements and immediates).
use Rattle.std.specs.Prelude.{ℕ, ◌+◌, ◌*◌, ℤ, pos, ◌-ℤ◌, nat_lt, if◌then◌else◌, List, slice_index}

abbrev pub word_at : List ℕ → ℕ → ℕ
word_at code at = slice_index code at + 256 * slice_index code (at + 1)

abbrev pub number_at : List ℕ → ℕ → ℕ
number_at code at =
    slice_index code at + 256 * slice_index code (at + 1) + 65536 * slice_index code (at + 2) + 16777216 * slice_index code (at + 3)

abbrev pub signed : ℕ → ℕ → ℤ
signed half number = if nat_lt number half then pos number else pos number -ℤ pos (2 * half)

abbrev pub signed_byte : ℕ → ℤ
signed_byte byte = signed 128 byte

abbrev pub signed_at : List ℕ → ℕ → ℤ
signed_at code at = signed 0x8000_0000 (number_at code at)
