-- Fields of an instruction's word (Arm Architecture Reference Manual for A-profile architecture, C4.1).
use Rattle.std.specs.Prelude.{ℕ, ◌/◌, ◌%◌, ◌^◌, ◌*◌, ℤ, pos, ◌-ℤ◌, nat_lt, if◌then◌else◌}

-- The field of `width` bits of which `low` is the lowest.
abbrev pub bits : ℕ → ℕ → ℕ → ℕ
bits word low width = word / 2 ^ low % 2 ^ width

-- The number that a field stands for in two's complement, where `half` is its highest bit alone.
abbrev pub signed : ℕ → ℕ → ℤ
signed field half = if nat_lt field half then pos field else pos field -ℤ pos (2 * half)
