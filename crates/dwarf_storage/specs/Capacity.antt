-- The capacity of lists.
use Rattle.std.specs.Prelude.{◌≡◌, ℕ, ◌+◌, ◌<◌, ◌≤◌, Option, Some, None, Result, Ok, Err}
use Rattle.dwarf_storage.specs.declared.array_like.PushError.{PushError}
use Rattle.dwarf_storage.specs.declared.array_like.PushError.TheVariants.{CapacityFull, OutOfMemory}

-- A number of items is within a capacity, if there is one.
abbrev pub IsWithin : Option ℕ → ℕ → Type 0
IsWithin (Some capacity) len = len ≤ capacity
IsWithin None len = Unit {0}

-- There is room for one more item.
abbrev pub HasRoom : Option ℕ → ℕ → Type 0
HasRoom capacity len = IsWithin capacity (len + 1)

-- What a push returns on a list of this length: it fails if the list is full, and succeeds if there is room. On a list that
-- grows it fails only if there is no memory.
abbrev pub Pushes : Option ℕ → ℕ → Result (Unit {0}) PushError → Type 0
Pushes (Some capacity) len (Ok _) = len < capacity
Pushes (Some capacity) len (Err e) = (capacity ≤ len) × (e ≡ CapacityFull)
Pushes None len (Ok _) = Unit {0}
Pushes None len (Err e) = e ≡ OutOfMemory
