-- The order of stacks in a picture.
use Rattle.std.specs.Prelude.{ℕ, ◌==◌, if◌then◌else◌}

-- a byte, or another in place of one
abbrev pub replaced : (from to byte : ℕ) → ℕ
replaced from to byte = if byte == from then to else byte
