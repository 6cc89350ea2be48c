-- Numbers and bytes at offsets of an ELF file whose least significant bytes come first (ELFDATA2LSB of the System V gABI, "ELF
-- Identification"), and what reading them gives.
use Rattle.std.specs.Prelude.{ℕ, ◌+◌, Bool, nat_le, if◌then◌else◌, List, length, take, drop, Result, Ok, Err}
use Rattle.dwarf_endianity.specs.ByteOrder.{little_endian}
use Rattle.elf_files.specs.declared.error.ElfError.{ElfError}
use Rattle.elf_files.specs.declared.error.ElfError.TheVariants.{Truncated}

-- A value, or why the file doesn't give one.
abbrev pub ElfResult : Type 0 → Type 0
ElfResult A = Result A ElfError

infixl 10 ◌>>=◌
-- One after another, up to the first error.
abbrev pub ◌>>=◌ : {A B : Type 0} → ElfResult A → (A → ElfResult B) → ElfResult B
(Ok value) >>= next = next value
(Err error) >>= next = Err error

-- An error if the test fails, or else what comes next.
abbrev pub unless : {A : Type 0} → Bool → ElfError → ElfResult A → ElfResult A
unless test error next = if test then next else Err error

-- The number in so many bytes from an offset on.
unfoldable pub number_at : ℕ → List ℕ → ℕ → ℕ
number_at size bytes offset = little_endian (take size (drop offset bytes))

-- So many bytes from an offset on are in the file.
abbrev pub is_within : List ℕ → ℕ → ℕ → Bool
is_within bytes offset size = nat_le (offset + size) (length bytes)

-- So many bytes from an offset on, if they are.
abbrev pub bytes_at : List ℕ → ℕ → ℕ → ElfResult (List ℕ)
bytes_at bytes offset size = unless (is_within bytes offset size) (Truncated offset) (Ok (take size (drop offset bytes)))
