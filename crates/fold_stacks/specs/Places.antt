-- Places in files, and the numbers of their names.
use Rattle.std.specs.Prelude.{◌≡◌, ℕ, ◌==◌, ◌&&◌, ◌⊎◌, if◌then◌else◌, Bool, List, slice_get, Option, Some, None}
use Rattle.std.specs.Map.{lookup}
use Rattle.fold_stacks.specs.declared.places.NumberedPlace.{NumberedPlace}
use Rattle.fold_stacks.specs.declared.places.PlaceKey.{PlaceKey}

-- a place is another
abbrev pub is_place : PlaceKey → PlaceKey → Bool
is_place place other = (place.file == other.file) && (place.address == other.address)

-- the number of a place's name, if it is there
abbrev pub number_among : List (PlaceKey × ℕ) → PlaceKey → Option ℕ
number_among numbers place = lookup (is_place place) numbers

-- Numbers are those before with one more, or another for its place.
abbrev pub PutsNumber : PlaceKey → ℕ → List (PlaceKey × ℕ) → List (PlaceKey × ℕ) → Type 0
PutsNumber place number old new =
    (other : PlaceKey) → number_among new other ≡ (if is_place place other then Some number else number_among old other)

-- A place is in a slot.
abbrev pub IsInSlot : List (Option NumberedPlace) → ℕ → NumberedPlace → Type 0
IsInSlot slots slot place = slice_get slots slot ≡ Some (Some place)

-- It is in one of them.
abbrev pub IsInSomeSlot : List (Option NumberedPlace) → NumberedPlace → Type 0
IsInSomeSlot slots place = (slot : ℕ) × IsInSlot slots slot place

-- Each place in a slot has its number.
abbrev pub SlotsAreOf : List (PlaceKey × ℕ) → List (Option NumberedPlace) → Type 0
SlotsAreOf numbers slots = (slot : ℕ) (place : NumberedPlace) → IsInSlot slots slot place → number_among numbers place.key ≡ Some place.number

-- What is in a slot is this place, or was there.
abbrev pub PutsInSlot : NumberedPlace → List (Option NumberedPlace) → List (Option NumberedPlace) → Type 0
PutsInSlot put old new = (slot : ℕ) (place : NumberedPlace) → IsInSlot new slot place → (place ≡ put) ⊎ IsInSlot old slot place

-- What is in a slot was there.
abbrev pub PutsNothing : List (Option NumberedPlace) → List (Option NumberedPlace) → Type 0
PutsNothing old new = (slot : ℕ) (place : NumberedPlace) → IsInSlot new slot place → IsInSlot old slot place
