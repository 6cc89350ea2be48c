-- Bits of a byte.
use Rattle.std.specs.Prelude.{ℕ, ◌/◌, ◌%◌, ◌^◌, ◌==◌, Bool}

abbrev pub bit : ℕ → ℕ → Bool
bit byte number = byte / 2 ^ number % 2 == 1
