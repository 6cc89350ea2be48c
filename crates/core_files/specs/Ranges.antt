-- Ranges of addresses, each with the bytes of its first addresses, as far as they are known.
use Rattle.std.specs.Prelude.{ℕ, ◌≡◌, ◌+◌, ◌-◌, ◌≤◌, ◌==◌, ◌&&◌, Bool, true, false, nat_le, nat_lt, if◌then◌else◌, List, ◌++◌, length, drop, replicate, slice_get, slice_index_or, Option, Some, None}
use Rattle.std.specs.List.{find, list_any, AllAdjacentBelow}
use Rattle.std.specs.List.Sorted.{IsPartitionPoint}

-- So many zeros, and then other bytes.
abbrev pub after_zeros : ℕ → List ℕ → List ℕ
after_zeros zeros bytes = replicate zeros 0 ++ bytes

-- A range: its first address, how many addresses it has, the bytes of the first ones, how many after these were lost, and whether what
-- is there may be executed.
pub record KnownRange : Type 0 where
  pub address : ℕ
  pub size : ℕ
  pub bytes : List ℕ
  pub lost : ℕ
  pub executable : Bool

-- An address is in a range.
abbrev pub contains : ℕ → KnownRange → Bool
contains address range = nat_le range.address address && nat_lt address (range.address + range.size)

-- The first range that contains an address.
unfoldable pub range_at : List KnownRange → ℕ → Option KnownRange
range_at ranges address = find (contains address) ranges

-- The byte at an address that a range contains, if it is known.
abbrev pub byte_in : ℕ → KnownRange → Option ℕ
byte_in address range = slice_get range.bytes (address - range.address)

-- The byte at an address that a range contains was lost.
abbrev pub loses : ℕ → KnownRange → Bool
loses address range =
    let offset = address - range.address in
    nat_le (length range.bytes) offset && nat_lt offset (length range.bytes + range.lost)

-- Some bytes of one of the ranges were lost.
abbrev pub any_loses : List KnownRange → Bool
any_loses ranges = list_any (λ range. nat_lt 0 range.lost) ranges

-- The bytes of a range from an address on, if it has that one, and an ELF file can begin there (gABI, "ELF Identification": EI_MAG0).
abbrev pub file_in : ℕ → KnownRange → Option (List ℕ)
file_in address range =
    let offset = address - range.address in
    if contains address range && (slice_index_or range.bytes offset 0 == 0x7f) then Some (drop offset range.bytes) else None

-- One range ends where another begins, or before it.
abbrev pub IsBefore : KnownRange → KnownRange → Type 0
IsBefore range next = range.address + range.size ≤ next.address

-- Each range ends before the next begins, so that none contains an address of another.
abbrev pub IsIncreasing : List KnownRange → Type 0
IsIncreasing ranges = AllAdjacentBelow IsBefore ranges (length ranges)

-- So many ranges, the first ones, begin at an address or below it, and the others above it.
abbrev pub BeginAtOrBelow : List KnownRange → ℕ → ℕ → Type 0
BeginAtOrBelow ranges address count =
    IsPartitionPoint (λ range. nat_le range.address address ≡ true) (λ range. nat_le range.address address ≡ false) ranges count
