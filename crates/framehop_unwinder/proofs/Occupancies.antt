-- In how many slots of a cache a rule is kept, by the keys of its history.
use Rattle.std.proofs.Common.{◌≡◌, ◌∙◌, ℕ, zero, suc, ◌+◌, ◌<◌, sym, ap, subst, refl, arith, List, [], ◌∷◌, length, get_or, map, Option, Some, None}
use Rattle.std.specs.Prelude.{cond, count_by, is_some, sum_by}
use Rattle.std.specs.List.{range_with_len}
use Rattle.std.proofs.lemmas.List.Sums.{sum_by-cons}
use Rattle.framehop_rules.specs.LastKept.{last_keys}
use Rattle.framehop_rules.specs.Occupancy.{occupancy_of, rules_in, slots_in}
use Rattle.framehop_rules.specs.Slots.{Key, KeptRule, Kept, Layout, empty_set, key_in, sets_in}
use Rattle.framehop_rules.specs.declared.rule_cache.CacheOccupancy.{CacheOccupancy}
use Rattle.framehop_unwinder.specs.History.{KeyHistory, HasHistory, occupancy_after}
use Rattle.framehop_unwinder.specs.RulesKept.{Sets}

module _ {Rule : Type 0} where
  taken-in : (slot : Option (KeptRule Rule)) → is_some (key_in slot) ≡ is_some slot
  taken-in None = refl
  taken-in (Some kept) = refl

  -- a slot is taken where its key is
  taken-by-keys : (slots : List (Option (KeptRule Rule))) → count_by is_some (map key_in slots) ≡ count_by is_some slots
  taken-by-keys [] = refl
  taken-by-keys (slot ∷ slots) =
      let keys = sum_by-cons (λ (k : Option Key). cond (is_some k) 1 0) (key_in slot) (map key_in slots) in
      let rules = sum_by-cons (λ (s : Option (KeptRule Rule)). cond (is_some s) 1 0) slot slots in
      let here = ap {B = ℕ} (λ b. cond b 1 0) (taken-in slot) in
      let others = taken-by-keys slots in
      omega (arith, keys, rules, here, others)

  -- the slots that are taken in each set, from one number on
  taken-from : (layout : Layout) (keys : List Key) (start : ℕ) (sets : Sets Rule)
      → ((i : ℕ) → i < length sets → map key_in (get_or sets i (empty_set layout)) ≡ last_keys layout keys (start + i))
      → rules_in sets ≡ rules_in (map (last_keys layout keys) (range_with_len start (length sets)))
  taken-from layout keys start [] each = refl
  taken-from layout keys start (set ∷ sets) each =
      let next : List (List (Option Key)) = map (last_keys layout keys) (range_with_len (start + 1) (length sets)) in
      let mine = sum_by-cons (count_by is_some) set sets in
      let theirs = sum_by-cons (count_by is_some) (last_keys layout keys start) next in
      let at : start + 0 ≡ start = omega arith in
      let here = sym (taken-by-keys set) ∙ ap (count_by is_some) (each 0 (omega arith) ∙ ap (last_keys layout keys) at) in
      let others = taken-from layout keys (start + 1) sets (λ i less. each (suc i) (omega arith) ∙ ap (last_keys layout keys) (let same : start + suc i ≡ start + 1 + i = omega arith in same)) in
      omega (arith, mine, theirs, here, others)

  pub occupancy-has : (history : KeyHistory) (cache : Kept Rule) → HasHistory history cache → occupancy_of cache ≡ occupancy_after history
  occupancy-has history cache has =
      let layout = history.layout in
      let taken : rules_in cache.sets ≡ rules_in (map (last_keys layout history.keys) (range_with_len 0 (sets_in layout))) =
      taken-from layout history.keys 0 cache.sets (λ i less. has.keys.each i ∙ ap (last_keys layout history.keys) (let same : i ≡ 0 + i = omega arith in same))
      ∙ ap (λ n. rules_in (map (last_keys layout history.keys) (range_with_len 0 n))) has.keys.count in
      let told : ℕ → ℕ → CacheOccupancy = λ slots rules. record { slot_count = slots; rule_count = rules } in
      ap (λ l. told (slots_in l) (rules_in cache.sets)) has.layout ∙ ap (told (slots_in layout)) taken
