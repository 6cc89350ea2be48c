-- The slots of a cache as they lie in memory, and as contracts see them: empty ones, one more rule, and what is found.
use Rattle.std.proofs.Common.{◌≡◌, ◌≢◌, ◌∙◌, ℕ, zero, suc, ◌+◌, ◌-◌, ◌*◌, ◌/◌, ◌%◌, ◌^◌, ◌<◌, ◌≤◌, ◌⊎◌, inl, inr, ap, sym, subst, refl, arith, List, [], ◌∷◌, length, get_or, set, take, replicate, map, Option, Some, None}
use Rattle.std.specs.Prelude.{IfSome, ◌==◌, if◌then◌else◌, false}
use Rattle.std.specs.List.{All, Contains}
use Rattle.std.proofs.lemmas.Bool.{cases_lt, ne_eqb}
use Rattle.std.proofs.lemmas.List.{map-set, get_or-map, get_or_past, length-map, length-replicate}
use Rattle.std.proofs.lemmas.List.Elements.{All-get_or, All-replicate}
use Rattle.std.proofs.Math.Nat.{pow-suc}
use Rattle.framehop_rules.specs.Slots.{Key, KeptRule, Layout, Hits, IsPowerOfTwo, IsCountOfPairs, IsSlotCount, empty_set, empty_sets, finding_among, finding_for, found_in, kept_under, layout_of, pairs_of_slots, single_slots, slots_of, with_kept}
use Rattle.framehop_rules.specs.CacheViews.{AllValid, HasValid, pair_shown, single_shown, slot_shown}
use Rattle.framehop_rules.specs.declared.rule_cache.CacheSlot.{CacheSlot}
use Rattle.framehop_rules.specs.declared.rule_cache.CacheSlot.TheVariants.{Empty}
use Rattle.framehop_rules.specs.declared.rule_cache.SlotPair.{SlotPair}
use Rattle.framehop_rules.proofs.LastKept.{hit_there}

-- half of a power of two from 2 on is one, and not 0
half : (exponent : ℕ) → 1 ≤ exponent → (2 ^ exponent / 2 ≡ 2 ^ (exponent - 1))
half zero least = absurd (omega arith)
half (suc below) least =
    let twice : 2 ^ suc below ≡ 2 ^ below * 2 = pow-suc 2 below in
    let halved : 2 ^ below * 2 / 2 ≡ 2 ^ below = omega arith in
    let same : suc below - 1 ≡ below = omega arith in
    ap (λ n. n / 2) twice ∙ halved ∙ ap (λ n. 2 ^ n) (sym same)

pairs-of-count : (slots : ℕ) → slots ≢ 509 → IsSlotCount slots → IsCountOfPairs slots
pairs-of-count slots differs (inl same) = absurd (differs same)
pairs-of-count slots differs (inr pairs) = pairs

-- the pairs of a count that isn't 509
pub halves : (slots : ℕ) → slots ≢ 509 → IsSlotCount slots → IsPowerOfTwo (slots / 2)
halves slots differs count =
    let pairs = pairs-of-count slots differs count in
    record { exponent = pairs.exponent - 1; is = ap (λ n. n / 2) pairs.is ∙ half pairs.exponent pairs.least }

-- what is neither 509 nor such a power is no count
pub no-count : (slots end : ℕ) → slots ≢ 509 → 20 < end → ((k : ℕ) → 1 ≤ k → k < end → slots ≢ 2 ^ k) → IsSlotCount slots → ⊥
no-count slots end differs last others (inl same) = differs same
no-count slots end differs last others (inr pairs) =
    let below : pairs.exponent < end = let most = pairs.most in omega arith in
    others pairs.exponent pairs.least below pairs.is

-- there is one at least
pub half_positive : (slots : ℕ) → slots ≢ 509 → IsSlotCount slots → 0 < slots / 2
half_positive slots differs count =
    let pairs = halves slots differs count in
    subst (λ n. 0 < n) (sym pairs.is) (pow-pos pairs.exponent)
  where
    pow-pos : (exponent : ℕ) → 0 < 2 ^ exponent
    pow-pos zero = omega arith
    pow-pos (suc below) = let h = pow-pos below in let twice : 2 ^ suc below ≡ 2 ^ below * 2 = pow-suc 2 below in omega arith

module _ {R : Type 0} where
  singles-empty : (count : ℕ) → map (single_shown {Rule = R}) (replicate count Empty) ≡ replicate count (None ∷ [])
  singles-empty zero = refl
  singles-empty (suc count) = ap (λ sets. (None ∷ []) ∷ sets) (singles-empty count)

  pairs-empty : (count : ℕ) → map (pair_shown {Rule = R}) (replicate count (record { newer = Empty; older = Empty })) ≡ replicate count (None ∷ None ∷ [])
  pairs-empty zero = refl
  pairs-empty (suc count) = ap (λ sets. (None ∷ None ∷ []) ∷ sets) (pairs-empty count)

  -- 509 empty slots
  pub singles-new : (slots : ℕ) (items : List (CacheSlot R)) → slots ≡ 509 → items ≡ replicate 509 Empty → map single_shown items ≡ empty_sets (layout_of slots)
  singles-new slots items same empty = ap (map single_shown) empty ∙ singles-empty 509 ∙ ap (λ n. empty_sets (layout_of n)) (sym same)

  -- pairs of empty slots
  pub pairs-new : (slots : ℕ) (items : List (SlotPair R)) → slots ≢ 509 → 0 < slots / 2 → items ≡ replicate (slots / 2) (record { newer = Empty; older = Empty })
      → map pair_shown items ≡ empty_sets (layout_of slots)
  pairs-new slots items differs some empty =
      let whole : slots / 2 ≡ slots / 2 - 1 + 1 = omega arith in
      ap (map pair_shown) empty ∙ pairs-empty (slots / 2) ∙ ap (λ n. replicate n (None ∷ None ∷ [])) whole
      ∙ ap (λ b. empty_sets (if b then single_slots else pairs_of_slots (slots / 2))) (sym (ne_eqb slots 509 differs))

  -- a rule that is kept in one of 509 slots
  pub single-kept : (items : List (CacheSlot R)) (place : ℕ) (slot : CacheSlot R) (key : Key) (rule : R) → place ≡ key.address % 509 → slot_shown slot ≡ Some (kept_under key rule)
      → map single_shown (set items place slot) ≡ with_kept single_slots (map single_shown items) key rule
  single-kept items place slot key rule at shown =
      let whole : key.address ≡ key.address / 1 = omega arith in
      map-set single_shown items place slot
      ∙ ap (λ there. set (map single_shown items) place (there ∷ [])) shown
      ∙ ap (λ n. set (map single_shown items) n (Some (kept_under key rule) ∷ [])) (at ∙ ap (λ n. n % 509) whole)

  -- a rule that is kept in one of some pairs
  pub pair-kept : (items : List (SlotPair R)) (place : ℕ) (old new : SlotPair R) (slot : CacheSlot R) (key : Key) (rule : R) → place ≡ key.address / 4 % length items → place < length items
      → old ≡ get_or items place old → slot_shown slot ≡ Some (kept_under key rule) → pair_shown new ≡ take 2 (slot_shown slot ∷ pair_shown old)
      → map pair_shown (set items place new) ≡ with_kept (pairs_of_slots (length items)) (map pair_shown items) key rule
  pair-kept items place old new slot key rule at within read shown changed =
      let whole : length items ≡ length items - 1 + 1 = omega arith in
      let sets = map pair_shown items in
      let layout = pairs_of_slots (length items) in
      let there : pair_shown old ≡ slots_of layout sets place = ap pair_shown read ∙ sym (get_or-map pair_shown items place old (empty_set layout) within) in
      map-set pair_shown items place new
      ∙ ap (set sets place) (changed ∙ ap (λ x. take 2 (x ∷ pair_shown old)) shown ∙ ap (λ slots. take 2 (Some (kept_under key rule) ∷ slots)) there)
      ∙ ap (λ n. set sets n (take 2 (Some (kept_under key rule) ∷ slots_of layout sets n))) (at ∙ ap (λ n. key.address / 4 % n) whole)

  -- what is found in one of 509 slots
  pub single-found : (items : List (CacheSlot R)) (place : ℕ) (slot : CacheSlot R) (key : Key) → place ≡ key.address % 509 → place < length items → slot ≡ get_or items place slot
      → finding_for key (slot_shown slot) ≡ found_in single_slots (map single_shown items) key
  single-found items place slot key at within read =
      let whole : key.address ≡ key.address / 1 = omega arith in
      ap (λ s. finding_for key (slot_shown s)) read
      ∙ sym (ap (finding_among key) (get_or-map single_shown items place slot (empty_set single_slots) within))
      ∙ ap (λ n. finding_among key (slots_of single_slots (map single_shown items) n)) (at ∙ ap (λ n. n % 509) whole)

  slots-valid : (P : R → Type 0) (layout : Layout) (sets : List (List (Option (KeptRule R)))) (place : ℕ) → (place < length sets) ⊎ (length sets ≤ place) → AllValid P sets → HasValid P (slots_of layout sets place)
  slots-valid P layout sets place (inl within) all = All-get_or (HasValid P) sets place (empty_set layout) within all
  slots-valid P layout sets place (inr past) all =
      subst (HasValid P) (sym (get_or_past sets place (empty_set layout) past)) (All-replicate (λ slot. IfSome slot (λ (kept : KeptRule R). P kept.rule)) layout.ways None tt)

  -- a rule that is found can be executed
  pub found-valid : (P : R → Type 0) (layout : Layout) (sets : List (List (Option (KeptRule R)))) (key : Key) (rule : R) → AllValid P sets → found_in layout sets key ≡ Hits rule → P rule
  found-valid P layout sets key rule all is =
      let place = key.address / layout.grain % (layout.last_set + 1) in
      let slots = slots_of layout sets place in
      let there : Contains slots (Some (kept_under key rule)) = hit_there key rule slots is in
      subst (λ slot. IfSome slot (λ (kept : KeptRule R). P kept.rule)) there.2
      (All-get_or (λ slot. IfSome slot (λ (kept : KeptRule R). P kept.rule)) slots there.0 (Some (kept_under key rule)) there.1 (slots-valid P layout sets place (cases_lt place (length sets)) all))
