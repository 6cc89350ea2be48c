-- The slots of a rule cache, and what a look-up answers, as contracts see them.
use Rattle.std.specs.Prelude.{◌≡◌, ◌∷◌, [], Bool, true, false, List, length, map, Option, None, Some, IfSome}
use Rattle.std.specs.List.{All}
use Rattle.framehop_rules.specs.Slots as slots
use Rattle.framehop_rules.specs.Slots.{Key, KeptRule, Layout, IsPowerOfTwo, single_slots, pairs_of_slots}
use Rattle.framehop_rules.specs.declared.rule_cache.CacheEntry.{CacheEntry}
use Rattle.framehop_rules.specs.declared.rule_cache.CacheSlot.{CacheSlot}
use Rattle.framehop_rules.specs.declared.rule_cache.CacheSlot.TheVariants.{Empty, FirstFrame, LaterFrame}
use Rattle.framehop_rules.specs.declared.rule_cache.SlotPair.{SlotPair}
use Rattle.framehop_rules.specs.declared.rule_cache.CacheSlots.{CacheSlots}
use Rattle.framehop_rules.specs.declared.rule_cache.CacheSlots.TheVariants.{Singles, Pairs}
use Rattle.framehop_rules.specs.declared.rule_cache.Finding.{Finding}
use Rattle.framehop_rules.specs.declared.rule_cache.Finding.TheVariants.{Hits, EmptySlot, OtherModules, OtherAddress}
use Rattle.framehop_rules.specs.declared.rule_cache.CacheResult.{CacheResult}
use Rattle.framehop_rules.specs.declared.rule_cache.CacheResult.TheVariants.{Miss, Hit}

-- An entry of a first frame or of another.
abbrev pub entry_shown : {Rule : Type 0} → Bool → CacheEntry Rule → KeptRule Rule
entry_shown is_first entry = record {
  key = record { address = entry.address; is_first = is_first; generation = entry.modules_generation };
  rule = entry.unwind_rule;
}

-- What is in a slot, if anything is.
abbrev pub slot_shown : {Rule : Type 0} → CacheSlot Rule → Option (KeptRule Rule)
slot_shown Empty = None
slot_shown (FirstFrame entry) = Some (entry_shown true entry)
slot_shown (LaterFrame entry) = Some (entry_shown false entry)

-- The slots of a set of one.
abbrev pub single_shown : {Rule : Type 0} → CacheSlot Rule → List (Option (KeptRule Rule))
single_shown slot = slot_shown slot ∷ []

-- The slots of a pair, the newer first.
abbrev pub pair_shown : {Rule : Type 0} → SlotPair Rule → List (Option (KeptRule Rule))
pair_shown pair = slot_shown pair.newer ∷ slot_shown pair.older ∷ []

-- The layout of the slots.
abbrev pub layout_shown : {Rule : Type 0} → CacheSlots Rule → Layout
layout_shown (Singles singles) = single_slots
layout_shown (Pairs pairs) = pairs_of_slots (length pairs.items)

-- The slots of each set.
abbrev pub sets_shown : {Rule : Type 0} → CacheSlots Rule → List (List (Option (KeptRule Rule)))
sets_shown (Singles singles) = map single_shown singles.items
sets_shown (Pairs pairs) = map pair_shown pairs.items

-- There are 509 slots, or as many pairs as a power of two.
abbrev pub IsLaidOut : {Rule : Type 0} → CacheSlots Rule → Type 0
IsLaidOut (Singles singles) = length singles.items ≡ 509
IsLaidOut (Pairs pairs) = IsPowerOfTwo (length pairs.items)

-- The rules in the slots of a set can be executed.
abbrev pub HasValid : {Rule : Type 0} → (Rule → Type 0) → List (Option (KeptRule Rule)) → Type 0
HasValid is_valid set = All (λ slot. IfSome slot (λ kept. is_valid kept.rule)) set

-- The rules in the slots of all sets can be executed.
abbrev pub AllValid : {Rule : Type 0} → (Rule → Type 0) → List (List (Option (KeptRule Rule))) → Type 0
AllValid is_valid sets = All (HasValid is_valid) sets

-- What was found.
abbrev pub finding_shown : {Rule : Type 0} → Finding Rule → slots.Finding Rule
finding_shown (Hits rule) = slots.Hits rule
finding_shown EmptySlot = slots.EmptySlot
finding_shown OtherModules = slots.OtherModules
finding_shown OtherAddress = slots.OtherAddress

-- What a look-up for a key finds in the slots.
abbrev pub found_shown : {Rule : Type 0} → CacheSlots Rule → Key → slots.Finding Rule
found_shown cache key = slots.found_in (layout_shown cache) (sets_shown cache) key

-- The slots of each set, with one more rule kept.
abbrev pub with_shown : {Rule : Type 0} → CacheSlots Rule → KeptRule Rule → List (List (Option (KeptRule Rule)))
with_shown cache kept = slots.with_kept (layout_shown cache) (sets_shown cache) kept.key kept.rule

-- What a look-up answers: the rule, or else the key to keep one under.
abbrev pub result_of : {Rule : Type 0} → Key → slots.Finding Rule → CacheResult Rule
result_of key (slots.Hits rule) = Hit rule
result_of key slots.EmptySlot = Miss key
result_of key slots.OtherModules = Miss key
result_of key slots.OtherAddress = Miss key

-- A fact about the rule that a look-up answers, if it answers one.
abbrev pub IfHit : {Rule : Type 0} → CacheResult Rule → (Rule → Type 0) → Type 0
IfHit (Hit rule) Fact = Fact rule
IfHit (Miss key) Fact = Unit {0}
