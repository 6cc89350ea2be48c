-- The shortest spellings of unsigned numbers (DWARF 5, 7.6).
use Rattle.std.specs.Prelude.{ℕ, zero, suc, ◌+◌, ◌%◌, ◌/◌, List, [], ◌∷◌, nat_lt, if◌then◌else◌}

-- a number in at most n + 1 groups of seven bits
abbrev pub groups_of : ℕ → ℕ → List ℕ
groups_of zero v = v ∷ []
groups_of (suc n) v = if nat_lt v 128 then v ∷ [] else (128 + v % 128) ∷ groups_of n (v / 128)

-- the shortest spelling of a number of 64 bits
unfoldable pub unsigned_string : ℕ → List ℕ
unsigned_string v = groups_of 9 v
