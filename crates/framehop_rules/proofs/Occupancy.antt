-- How many slots there are, and in how many a rule is kept, as they lie in memory.
use Rattle.std.proofs.Common.{◌≡◌, ℕ, ◌+◌, ◌-◌, ◌*◌, ◌^◌, ◌<◌, ◌≤◌, Bool, sym, subst, refl, arith, List, [], ◌∷◌, length, map}
use Rattle.std.specs.Prelude.{cond, count_by, is_some, sum_by}
use Rattle.std.proofs.lemmas.List.Sums.{count_by-le-length, sum_by-cons}
use Rattle.std.proofs.lemmas.Nat.{pow_pos}
use Rattle.framehop_rules.specs.CacheViews.{pair_shown, single_shown, slot_shown}
use Rattle.framehop_rules.specs.Occupancy.{rules_in, slots_in}
use Rattle.framehop_rules.specs.Slots.{IsPowerOfTwo, pairs_of_slots}
use Rattle.framehop_rules.specs.declared.rule_cache.CacheSlot.{CacheSlot}
use Rattle.framehop_rules.specs.declared.rule_cache.SlotPair.{SlotPair}

-- two slots for each pair
pub pairs_slots : (pairs : ℕ) → IsPowerOfTwo pairs → 2 * pairs ≡ slots_in (pairs_of_slots pairs)
pairs_slots pairs power =
    let some : 0 < pairs = subst (λ n. 0 < n) (sym power.is) (pow_pos power.exponent) in
    omega arith

-- no more pass a test than there are
pub counts_few : {X : Type 0} (p : X → Bool) (xs : List X) → count_by p xs ≤ length xs
counts_few p xs = count_by-le-length p xs

module _ {R : Type 0} where
  -- the single slots in which a rule is kept
  pub singles_taken : (xs : List (CacheSlot R)) → count_by (λ s. is_some (slot_shown s)) xs ≡ rules_in (map single_shown xs)
  singles_taken [] = refl
  singles_taken (x ∷ xs) =
      let here = sum_by-cons (λ (s : CacheSlot R). cond (is_some (slot_shown s)) 1 0) x xs in
      let there = sum_by-cons (count_by is_some) (single_shown x) (map single_shown xs) in
      let others = singles_taken xs in
      omega (arith, here, there, others)

  -- the slots of pairs in which a rule is kept
  pub pairs_taken : (xs : List (SlotPair R))
      → count_by (λ p. is_some (slot_shown p.newer)) xs + count_by (λ p. is_some (slot_shown p.older)) xs ≡ rules_in (map pair_shown xs)
  pairs_taken [] = refl
  pairs_taken (x ∷ xs) =
      let newer = sum_by-cons (λ (p : SlotPair R). cond (is_some (slot_shown p.newer)) 1 0) x xs in
      let older = sum_by-cons (λ (p : SlotPair R). cond (is_some (slot_shown p.older)) 1 0) x xs in
      let both = sum_by-cons (count_by is_some) (pair_shown x) (map pair_shown xs) in
      let others = pairs_taken xs in
      omega (arith, newer, older, both, others)
