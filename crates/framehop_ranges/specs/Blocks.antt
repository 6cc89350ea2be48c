-- Where the entries of each block of addresses begin, and which entries are left to search for an address.
use Rattle.std.specs.Prelude.{◌<◌, ◌≤◌, ◌*◌, ℕ, List, length, slice_index}
use Rattle.std.specs.List.{AllWithin}
use Rattle.framehop_ranges.specs.declared.entry.RangeEntry.{RangeEntry}

-- so many of the entries start below a limit, and they are the first
pub record Passes {V : Type 0} (limit : ℕ) (entries : List (RangeEntry V)) (passed : ℕ) : Type 0 where
  pub bound : passed ≤ length entries
  pub below : AllWithin (λ entry. entry.start < limit) entries 0 passed
  pub above : AllWithin (λ entry. limit ≤ entry.start) entries passed (length entries)

-- For each block of so many addresses this is how many entries start below its first address; below the end of the last block all do.
pub record AreBlocksOf {V : Type 0} (size : ℕ) (entries : List (RangeEntry V)) (blocks : List ℕ) : Type 0 where
  pub each : (block : ℕ) → block < length blocks → Passes (block * size) entries (slice_index blocks block)
  pub all : Passes (length blocks * size) entries (length entries)

-- the entries before a part start at or below an address, and those after it above
pub record IsPart {V : Type 0} (entries : List (RangeEntry V)) (address first end : ℕ) : Type 0 where
  pub order : first ≤ end
  pub bound : end ≤ length entries
  pub before : AllWithin (λ entry. entry.start ≤ address) entries 0 first
  pub after : AllWithin (λ entry. address < entry.start) entries end (length entries)
