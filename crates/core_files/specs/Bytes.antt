-- Numbers at offsets, lowest byte first, as in elf_files, and lists of what is at several places.
use Rattle.std.specs.Prelude.{ℕ, zero, suc, ◌+◌, List, [], ◌∷◌}
use Rattle.elf_files.specs.Bytes.{number_at}

-- A number of 16 bits.
abbrev pub u16_at : List ℕ → ℕ → ℕ
u16_at bytes at = number_at 2 bytes at

-- A number of 32 bits.
abbrev pub u32_at : List ℕ → ℕ → ℕ
u32_at bytes at = number_at 4 bytes at

-- A number of 64 bits.
abbrev pub u64_at : List ℕ → ℕ → ℕ
u64_at bytes at = number_at 8 bytes at

-- What a function gives for so many numbers, from one on.
unfoldable pub each_from : {A : Type 0} → (ℕ → A) → ℕ → ℕ → List A
each_from f first zero = []
each_from f first (suc count) = f first ∷ each_from f (first + 1) count
