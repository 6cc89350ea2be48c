-- What is known while a search by halves goes on.
use Rattle.std.specs.Prelude.{ℕ, ◌+◌, ◌<◌, ◌≤◌, ◌^◌}
use Rattle.list_laws.specs.Halves.{AtLeastHalved, AtMostHalved}
use Rattle.sorted_starts.specs.declared.halves.Left.{Left}

-- So many starts from a first one on are left: all before them are at or below the limit, and all after them above it.
pub record IsLeft (count : ℕ) (start : ℕ → ℕ) (limit first len reads : ℕ) : Type 0 where
  pub some : 0 < len
  pub within : first + len ≤ count
  pub fits : count < 2 ^ 64
  pub below : (place : ℕ) → place < first → start place ≤ limit
  pub above : (place : ℕ) → first + len ≤ place → place < count → limit < start place
  pub few : AtMostHalved count reads len
  pub enough : AtLeastHalved count reads len

-- these are left
abbrev pub AreLeft : (count : ℕ) → (ℕ → ℕ) → (limit : ℕ) → Left → Type 0
AreLeft count start limit left = IsLeft count start limit (left.low + left.more) left.len left.reads
