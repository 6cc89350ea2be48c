-- Where a function of the addresses of 32 bits changes.
use Rattle.std.specs.Prelude.{◌≡◌, ◌≢◌, ◌<◌, ◌-◌, ◌^◌, ℕ, List, length, slice_index}
use Rattle.std.specs.List.{All}

-- These are the addresses, from the lowest on, at which a function has another value than at the address before.
pub record AreChanges {V : Type 0} (f : ℕ → V) (addresses : List ℕ) : Type 0 where
  pub rise : (i j : ℕ) → i < j → j < length addresses → slice_index addresses i < slice_index addresses j
  pub above : All (λ address. 0 < address) addresses
  pub fit : All (λ address. address < 2 ^ 32) addresses
  pub each : All (λ address. f address ≢ f (address - 1)) addresses
  pub others : (address : ℕ) → 0 < address → address < 2 ^ 32 → All (λ other. other ≢ address) addresses → f address ≡ f (address - 1)

-- A function changes at so many addresses.
pub record ChangesSo {V : Type 0} (f : ℕ → V) (count : ℕ) : Type 0 where
  pub addresses : List ℕ
  pub are : AreChanges f addresses
  pub number : length addresses ≡ count
