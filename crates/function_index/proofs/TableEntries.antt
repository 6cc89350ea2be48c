-- The entries of a table from an index on.
use Rattle.std.proofs.Common.{◌≡◌, ℕ, suc, ◌+◌, ◌-◌, ◌<◌, ◌∷◌, refl, arith}
use Rattle.elf_files.specs.Tables.{entries}

pub entries_more : {A : Type 0} (entry : ℕ → A) (index count : ℕ) → index < count → entries entry index (count - index) ≡ entry index ∷ entries entry (index + 1) (count - (index + 1))
entries_more entry index count below = let more : count - index ≡ suc (count - (index + 1)) = omega arith in rw more refl
