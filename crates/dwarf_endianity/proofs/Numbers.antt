-- Numbers of up to eight bytes, read from eight.
use Rattle.std.proofs.Common.{◌≡◌, ℕ, ◌-◌, ◌≤◌, List, [], ◌∷◌, length, replicate, arith}
use Rattle.std.specs.Int.{w64, from_le_bytes, from_be_bytes}
use borrow.Rule.Slice.PartMut.{put_mid}
use Rattle.dwarf_endianity.specs.ByteOrder.{little_endian, big_endian}

-- zeros behind the bytes, the least significant first, change nothing
pub filled_above : (bytes : List ℕ) → length bytes ≤ 8 → from_le_bytes w64 (put_mid 0 (length bytes) (replicate 8 0) bytes) ≡ little_endian bytes
filled_above [] fits = omega arith
filled_above (a ∷ []) fits = omega arith
filled_above (a ∷ b ∷ []) fits = omega arith
filled_above (a ∷ b ∷ c ∷ []) fits = omega arith
filled_above (a ∷ b ∷ c ∷ d ∷ []) fits = omega arith
filled_above (a ∷ b ∷ c ∷ d ∷ e ∷ []) fits = omega arith
filled_above (a ∷ b ∷ c ∷ d ∷ e ∷ f ∷ []) fits = omega arith
filled_above (a ∷ b ∷ c ∷ d ∷ e ∷ f ∷ g ∷ []) fits = omega arith
filled_above (a ∷ b ∷ c ∷ d ∷ e ∷ f ∷ g ∷ h ∷ []) fits = omega arith
filled_above (a ∷ b ∷ c ∷ d ∷ e ∷ f ∷ g ∷ h ∷ i ∷ bytes) fits = absurd (omega arith)

-- zeros before the bytes, the most significant first, change nothing
pub filled_below : (bytes : List ℕ) → length bytes ≤ 8 → from_be_bytes w64 (put_mid (8 - length bytes) (8 - (8 - length bytes)) (replicate 8 0) bytes) ≡ big_endian bytes
filled_below [] fits = omega arith
filled_below (a ∷ []) fits = omega arith
filled_below (a ∷ b ∷ []) fits = omega arith
filled_below (a ∷ b ∷ c ∷ []) fits = omega arith
filled_below (a ∷ b ∷ c ∷ d ∷ []) fits = omega arith
filled_below (a ∷ b ∷ c ∷ d ∷ e ∷ []) fits = omega arith
filled_below (a ∷ b ∷ c ∷ d ∷ e ∷ f ∷ []) fits = omega arith
filled_below (a ∷ b ∷ c ∷ d ∷ e ∷ f ∷ g ∷ []) fits = omega arith
filled_below (a ∷ b ∷ c ∷ d ∷ e ∷ f ∷ g ∷ h ∷ []) fits = omega arith
filled_below (a ∷ b ∷ c ∷ d ∷ e ∷ f ∷ g ∷ h ∷ i ∷ bytes) fits = absurd (omega arith)
