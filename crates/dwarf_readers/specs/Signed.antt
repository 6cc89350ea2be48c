-- The shortest spellings of signed numbers (DWARF 5, 7.6).
use Rattle.std.specs.Prelude.{ℕ, zero, suc, ◌+◌, ℤ, pos, neg_ℤ, unsigned_abs, List, [], ◌∷◌, Bool, ◌&&◌, int_le, int_lt, if◌then◌else◌}
use Rattle.std.specs.Int.{int_div_euclid, int_rem_euclid}

-- the low seven bits in two's complement
abbrev pub low_group : ℤ → ℕ
low_group v = unsigned_abs (int_rem_euclid v (pos 128))

-- the bits above the low seven
abbrev pub above_group : ℤ → ℤ
above_group v = int_div_euclid v (pos 128)

-- a number fits seven bits in two's complement
abbrev pub fits_group : ℤ → Bool
fits_group v = int_le (neg_ℤ (pos 64)) v && int_lt v (pos 64)

-- a number in at most n + 1 groups of seven bits
abbrev pub signed_groups_of : ℕ → ℤ → List ℕ
signed_groups_of zero v = low_group v ∷ []
signed_groups_of (suc n) v = if fits_group v then low_group v ∷ [] else (128 + low_group v) ∷ signed_groups_of n (above_group v)

-- the shortest spelling of a number of 64 bits
unfoldable pub signed_string : ℤ → List ℕ
signed_string v = signed_groups_of 9 v
