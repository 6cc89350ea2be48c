-- Numbers in the bytes of `__unwind_info`.
use Rattle.std.specs.Prelude.{ℕ, ◌+◌, ◌-◌, ◌*◌, ◌^◌, min, Bool, nat_le, if◌then◌else◌, List, length, slice_index, Result, Ok, Err}
use Rattle.framehop_errors.specs.declared.compact_format.CompactFormatError.{CompactFormatError}
use Rattle.framehop_errors.specs.declared.compact_format.CompactFormatError.TheVariants.{Truncated}

-- A value, or why it can't be read.
abbrev pub CompactResult : Type 0 → Type 0
CompactResult A = Result A CompactFormatError

-- The first part, and then the second by what the first gave.
abbrev pub result_and_then : {A B : Type 0} → CompactResult A → (A → CompactResult B) → CompactResult B
result_and_then (Ok value) next = next value
result_and_then (Err refusal) next = Err refusal

-- The number of 16 bits in the two bytes at an offset, lowest byte first.
unfoldable pub u16_at : List ℕ → ℕ → ℕ
u16_at bytes at = slice_index bytes at + 256 * slice_index bytes (at + 1)

-- The number of 32 bits in the four bytes at an offset, lowest byte first.
unfoldable pub u32_at : List ℕ → ℕ → ℕ
u32_at bytes at =
    slice_index bytes at + 256 * slice_index bytes (at + 1) + 65536 * slice_index bytes (at + 2) + 16777216 * slice_index bytes (at + 3)

-- So many bytes from an offset on are there.
abbrev pub is_within : List ℕ → ℕ → ℕ → Bool
is_within bytes offset size = nat_le (offset + size) (length bytes)

-- A value, if those bytes are there.
abbrev pub if_within : {A : Type 0} → List ℕ → ℕ → ℕ → CompactResult A → CompactResult A
if_within bytes offset size value = if is_within bytes offset size then value else Err Truncated

-- A sum of 32 bits, which stops at the greatest number.
abbrev pub capped_sum : ℕ → ℕ → ℕ
capped_sum a b = min (a + b) (2 ^ 32 - 1)
