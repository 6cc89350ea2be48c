-- The bytes of a number (DWARF 5, 7.6) that were read one by one: up to one below 128, or as many as a number may have.
use Rattle.std.specs.Prelude.{ℕ, ◌+◌, ◌*◌, ◌^◌, ◌≡◌, ◌≤◌, ◌<◌, length, take, slice_index}
use Rattle.dwarf_constants.specs.declared.error.Error.{Error}
use Rattle.dwarf_readers.specs.Leb128.{unsigned_value}
use Rattle.dwarf_readers.specs.Stretch.{Stretch, behind, end_of, ends_at}

-- At most n bytes were read: count of 128 and more, whose number is low, and a last one.
pub record AreGroups (n : ℕ) (s : Stretch) (low last count : ℕ) (left : Stretch) : Type 0 where
  pub within : count < n
  pub inside : count < length s.bytes
  pub marked : (k : ℕ) → k < count → 128 ≤ slice_index s.bytes k
  pub number : low ≡ unsigned_value (take count s.bytes)
  pub below : low < 128 ^ count
  pub byte : last ≡ slice_index s.bytes count
  pub ends : 128 ≤ last → count + 1 ≡ n
  pub rest : left ≡ behind (count + 1) s

-- All bytes were read, fewer than n, and none is below 128.
pub record EndsInGroups (n : ℕ) (s : Stretch) (error : Error) (left : Stretch) : Type 0 where
  pub few : length s.bytes < n
  pub marked : (k : ℕ) → k < length s.bytes → 128 ≤ slice_index s.bytes k
  pub eof : error ≡ ends_at (end_of s)
  pub rest : left ≡ behind (length s.bytes) s

-- A number of this many bits, from 1 to 64, has at most n bytes, and may have n.
pub record IsMostBytes (n bits : ℕ) : Type 0 where
  pub some : 1 ≤ bits
  pub word : bits ≤ 64
  pub enough : bits ≤ 7 * n
  pub needed : 7 * n < bits + 7
