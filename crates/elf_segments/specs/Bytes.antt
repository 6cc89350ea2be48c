-- First bytes.
use Rattle.std.specs.Prelude.{ℕ, nat_le, if◌then◌else◌, List, length, take, Option, Some, None}

-- the first bytes, if there are so many
abbrev pub first_bytes : ℕ → List ℕ → Option (List ℕ)
first_bytes size bytes = if nat_le size (length bytes) then Some (take size bytes) else None
