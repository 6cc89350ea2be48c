-- Starts by their places, and where those at or below a limit end.
use Rattle.std.specs.Prelude.{ℕ, ◌+◌, ◌<◌, ◌≤◌, List, map, slice_index}

-- the start of the item at a place
abbrev pub start_of : {X : Type 0} → (X → ℕ) → List X → ℕ → ℕ
start_of start items place = slice_index (map start items) place

-- of so many starts none is below the one before it
abbrev pub AreSorted : (count : ℕ) → (ℕ → ℕ) → Type 0
AreSorted count start = (place : ℕ) → place + 1 < count → start place ≤ start (place + 1)

-- the first so many starts are at or below a limit, and the others above it
pub record Parts (count : ℕ) (start : ℕ → ℕ) (limit parted : ℕ) : Type 0 where
  pub bound : parted ≤ count
  pub below : (place : ℕ) → place < parted → start place ≤ limit
  pub above : (place : ℕ) → parted ≤ place → place < count → limit < start place
