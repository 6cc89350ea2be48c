-- Rows of a table by their starts.
use Rattle.std.specs.Prelude.{ℕ, zero, suc, ◌+◌, ◌^◌, ◌<◌, ◌≤◌, nat_le, if◌then◌else◌, Option, Some, None}

-- The last of so many rows that starts at or below an address.
unfoldable pub last_row : ℕ → (ℕ → ℕ) → ℕ → Option ℕ
last_row zero start address = None
last_row (suc row) start address = if nat_le (start row) address then Some row else last_row row start address

-- A row is that row: it starts at or below the address, and each row after it above the address.
pub record IsLastRow (rows : ℕ) (start : ℕ → ℕ) (address row : ℕ) : Type 0 where
  pub within : row < rows
  pub reached : start row ≤ address
  pub after : (next : ℕ) → row < next → next < rows → address < start next

-- The starts increase strictly.
abbrev pub Increases : ℕ → (ℕ → ℕ) → Type 0
Increases rows start = (row : ℕ) → row + 1 < rows → start row < start (row + 1)

-- How many steps a search in so many rows takes at most, of which there are at most 2^k: k + 1, or none if there is no row.
abbrev pub most_steps : ℕ → ℕ → ℕ
most_steps zero k = 0
most_steps (suc rows) k = k + 1

-- At most ceil(log2(n)) + 1 more steps for n rows.
abbrev pub AreFewMore : ℕ → ℕ → ℕ → Type 0
AreFewMore rows before after = (k : ℕ) → rows ≤ 2 ^ k → after ≤ before + most_steps rows k
