-- The entries of a table from an index on.
use Rattle.std.proofs.Common.{◌≡◌, ℕ, suc, ◌+◌, ◌-◌, ◌<◌, ◌≤◌, ◌∷◌, refl, ap, ◌∙◌, arith}
use Rattle.elf_files.specs.Tables.{entries}

pub entries_more : {A : Type 0} (entry : ℕ → A) (index count : ℕ) → index < count → entries entry index (count - index) ≡ entry index ∷ entries entry (index + 1) (count - (index + 1))
entries_more entry index count below = let more : count - index ≡ suc (count - (index + 1)) = omega arith in rw more refl

-- .. and by one more in front of those after it
pub entries_back : {A : Type 0} (entry : ℕ → A) (left count : ℕ) → 0 < left → left ≤ count → entries entry (left - 1) (count - (left - 1)) ≡ entry (left - 1) ∷ entries entry left (count - left)
entries_back entry left count some within =
    let next : left - 1 + 1 ≡ left = omega arith in
    entries_more entry (left - 1) count (omega arith) ∙ ap (λ (index : ℕ). entry (left - 1) ∷ entries entry index (count - index)) next
