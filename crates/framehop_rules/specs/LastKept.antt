-- A rule cache by the list of all that was kept in it: each set has the last ones.
use Rattle.std.specs.Prelude.{ℕ, ◌≡◌, ◌==◌, List, ◌++◌, length, map, reverse, take, Option, Some}
use Rattle.std.specs.List.{filter}
use Rattle.framehop_rules.specs.Slots.{Key, KeptRule, Layout, sets_in, set_of, slots_of, empty_set}

-- What the slots of a set have after these were kept in it, in this order: the last ones, the last first.
abbrev pub newest : {A : Type 0} → Layout → List A → List (Option A)
newest layout kept = take layout.ways (map Some (reverse kept) ++ empty_set layout)

-- Of what was kept, in this order, what the slots of a set have.
abbrev pub last_entries : {Rule : Type 0} → Layout → List (KeptRule Rule) → ℕ → List (Option (KeptRule Rule))
last_entries layout kept set = newest layout (filter (λ entry. set_of layout entry.key.address == set) kept)

-- Of keys, in this order, those in the slots of a set.
abbrev pub last_keys : Layout → List Key → ℕ → List (Option Key)
last_keys layout keys set = newest layout (filter (λ key. set_of layout key.address == set) keys)

-- Each set has the last of what was kept in it.
pub record HasLast {Rule : Type 0} (layout : Layout) (kept : List (KeptRule Rule)) (sets : List (List (Option (KeptRule Rule)))) : Type 0 where
  pub count : length sets ≡ sets_in layout
  pub each : (set : ℕ) → slots_of layout sets set ≡ last_entries layout kept set
