-- Tables of entries of one size, and what is found in them.
use Rattle.std.specs.Prelude.{ℕ, zero, suc, ◌+◌, List, [], ◌∷◌, Option, Some, None, Ok}
use Rattle.elf_files.specs.Bytes.{ElfResult, ◌>>=◌}

-- The entries of a table from an index on, so many.
abbrev pub entries : {A : Type 0} → (ℕ → A) → ℕ → ℕ → List A
entries entry index zero = []
entries entry index (suc more) = entry index ∷ entries entry (index + 1) more

-- What an attempt found, or else what the others do.
abbrev pub found_or : {A : Type 0} → Option A → ElfResult (Option A) → ElfResult (Option A)
found_or (Some found) others = Ok (Some found)
found_or None others = others

-- What the first attempt finds that finds something, or the first error before it.
abbrev pub first_found : {A B : Type 0} → (A → ElfResult (Option B)) → List A → ElfResult (Option B)
first_found attempt [] = Ok None
first_found attempt (x ∷ xs) = attempt x >>= (λ found. found_or found (first_found attempt xs))
