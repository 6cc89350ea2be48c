-- How many slots a cache has, and in how many of them a rule is kept.
use Rattle.std.specs.Prelude.{ℕ, ◌*◌, List, Option, count_by, is_some, sum_by}
use Rattle.framehop_rules.specs.Slots.{Kept, Layout, sets_in}
use Rattle.framehop_rules.specs.declared.rule_cache.CacheOccupancy.{CacheOccupancy}

-- the slots of all sets
abbrev pub slots_in : Layout → ℕ
slots_in layout = sets_in layout * layout.ways

-- the slots of all sets in which a rule is kept
abbrev pub rules_in : {Rule : Type 0} → List (List (Option Rule)) → ℕ
rules_in sets = sum_by (count_by is_some) sets

-- how many slots a cache has, and in how many of them a rule is kept
abbrev pub occupancy_of : {Rule : Type 0} → Kept Rule → CacheOccupancy
occupancy_of cache = record { slot_count = slots_in cache.layout; rule_count = rules_in cache.sets }
