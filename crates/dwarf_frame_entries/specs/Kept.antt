-- What is kept by offsets.
use Rattle.std.specs.Prelude.{◌≡◌, ℕ, Some}
use Rattle.std.specs.BTreeMap.{BTreeMap, get}
use Rattle.std.specs.Ordering.{nat_cmp}

-- Each value that is kept at an offset has this property there.
abbrev pub EachKept : {V : Type 0} → (ℕ → V → Type 0) → BTreeMap ℕ V → Type 0
EachKept {V} P kept = (offset : ℕ) (value : V) → get nat_cmp kept offset ≡ Some value → P offset value
