-- In each set of a cache stand the last keys that were kept for it, and they decide what a look-up comes to.
use Rattle.std.proofs.Common.{◌≡◌, ◌∙◌, ℕ, zero, suc, ◌<◌, ap, sym, subst, refl, arith, Bool, true, false, List, [], ◌∷◌, ◌++◌, length, get_or, map, take, reverse, replicate, Option, Some, None}
use Rattle.std.specs.Prelude.{◌==◌, ◌&&◌, option_map, if◌then◌else◌}
use Rattle.std.specs.Bool.{beq}
use Rattle.std.specs.List.{filter}
use Rattle.std.proofs.lemmas.Bool.Decides.{Decides-eqb}
use Rattle.std.proofs.lemmas.Bool.{eqb-false}
use Rattle.std.proofs.lemmas.List.{get_or-set_same, get_or-set_other, length-set, length-replicate, append-nil, reverse-append, take-map}
use Rattle.std.proofs.lemmas.List.Elements.{filter-append}
use Rattle.framehop_rules.specs.LastKept.{newest, last_keys}
use Rattle.framehop_rules.specs.Slots.{Key, KeptRule, Layout, Finding, Hits, EmptySlot, OtherModules, OtherAddress, key_in, kept_under, sets_in, set_of, slots_of, empty_set, empty_sets, with_newest, with_kept, finding_for, finding_among, found_in, or_else_finding, counts_after}
use Rattle.framehop_rules.specs.declared.rule_cache.CacheStats.{CacheStats}
use Rattle.framehop_unwinder.specs.History.{bare_entry, bare_slots, finding_after, with_key, with_missed_key, keys_after, HasLastKeys}
use Rattle.framehop_unwinder.specs.RulesKept.{Sets, sets_after, with_any, with_missed}

take-longer : {A : Type 0} (n : ℕ) (xs : List A) → take n (take (suc n) xs) ≡ take n xs
take-longer zero xs = refl
take-longer (suc n) [] = refl
take-longer (suc n) (x ∷ xs) = ap (λ ys. x ∷ ys) (take-longer n xs)

-- the first of a list and one more in front ask no more of the list than its first
take-front : {A : Type 0} (n : ℕ) (x : A) (xs : List A) → take n (x ∷ take n xs) ≡ take n (x ∷ xs)
take-front zero x xs = refl
take-front (suc n) x xs = ap (λ ys. x ∷ ys) (take-longer n xs)

take-replicate : {A : Type 0} (n : ℕ) (x : A) → take n (replicate n x) ≡ replicate n x
take-replicate zero x = refl
take-replicate (suc n) x = ap (λ ys. x ∷ ys) (take-replicate n x)

module _ (layout : Layout) where
  -- one more key of a set, or of another
  newest-more : (before : List Key) (key : Key) (is_here : Bool)
      → newest layout (before ++ (if is_here then key ∷ [] else [])) ≡ (if is_here then with_newest layout key (newest layout before) else newest layout before)
  newest-more before key true =
      ap (λ keys. take layout.ways (map Some keys ++ empty_set layout)) (reverse-append before (key ∷ []))
      ∙ sym (take-front layout.ways (Some key) (map Some (reverse before) ++ empty_set layout))
  newest-more before key false = ap (newest layout) (append-nil before)

  last-more : (keys : List Key) (key : Key) (set : ℕ)
      → last_keys layout (keys ++ key ∷ []) set ≡ (if set_of layout key.address == set then with_newest layout key (last_keys layout keys set) else last_keys layout keys set)
  last-more keys key set =
      let here : Key → Bool = λ k. set_of layout k.address == set in
      ap (newest layout) (filter-append here keys (key ∷ [])) ∙ newest-more (filter here keys) key (set_of layout key.address == set)

same-in : {A : Type 0} (count set : ℕ) (x : A) → get_or (replicate count x) set x ≡ x
same-in zero set x = refl
same-in (suc count) zero x = refl
same-in (suc count) (suc set) x = same-in count set x

no-keys-in : (Rule : Type 0) (n : ℕ) → map (key_in {Rule = Rule}) (replicate n None) ≡ replicate n None
no-keys-in Rule zero = refl
no-keys-in Rule (suc n) = ap (λ slots. None ∷ slots) (no-keys-in Rule n)

module _ {Rule : Type 0} (layout : Layout) where
  pub no-keys : HasLastKeys {Rule = Rule} layout [] (empty_sets layout)
  no-keys = record {
    count = length-replicate (sets_in layout) (empty_set layout);
    each = λ set. ap (map key_in) (same-in (sets_in layout) set (empty_set layout)) ∙ no-keys-in Rule layout.ways ∙ sym (take-replicate layout.ways None);
  }

  in-set : (sets : Sets Rule) (key : Key) (rule : Rule) (set : ℕ) (last : List (Option Key)) (test : Bool) → length sets ≡ sets_in layout
      → (set_of layout key.address == set) ≡ test → map key_in (slots_of layout sets set) ≡ last
      → map key_in (slots_of layout (with_kept layout sets key rule) set) ≡ (if test then with_newest layout key last else last)
  in-set sets key rule set last true count is shown =
      let place = set_of layout key.address in
      let put = with_newest layout (kept_under key rule) (slots_of layout sets place) in
      let same : place ≡ set = (Decides-eqb place set).0 is in
      let there : place < length sets = omega arith in
      ap (map key_in) (subst (λ s. slots_of layout (with_kept layout sets key rule) s ≡ with_newest layout (kept_under key rule) (slots_of layout sets s)) same (get_or-set_same sets place put (empty_set layout) there))
      ∙ sym (take-map key_in layout.ways (Some (kept_under key rule) ∷ slots_of layout sets set))
      ∙ ap (λ keys. take layout.ways (Some key ∷ keys)) shown
  in-set sets key rule set last false count is shown =
      let place = set_of layout key.address in
      let put = with_newest layout (kept_under key rule) (slots_of layout sets place) in
      ap (map key_in) (get_or-set_other sets place set put (empty_set layout) (λ same. eqb-false place set is (sym same))) ∙ shown

  one-kept : (keys : List Key) (sets : Sets Rule) (key : Key) (rule : Rule) → HasLastKeys layout keys sets → HasLastKeys layout (keys ++ key ∷ []) (with_kept layout sets key rule)
  one-kept keys sets key rule has = record {
    count = length-set sets (set_of layout key.address) (with_newest layout (kept_under key rule) (slots_of layout sets (set_of layout key.address))) ∙ has.count;
    each = λ set. in-set sets key rule set (last_keys layout keys set) (set_of layout key.address == set) has.count refl (has.each set) ∙ sym (last-more layout keys key set);
  }

  any-kept : (keys : List Key) (sets : Sets Rule) (key : Key) (rule : Option Rule) → HasLastKeys layout keys sets → HasLastKeys layout (with_key keys key rule) (with_any layout sets key rule)
  any-kept keys sets key None has = has
  any-kept keys sets key (Some rule) has = one-kept keys sets key rule has

module _ {Rule : Type 0} where
  -- two look-ups that come to the same, but for the rule
  data Alike : Finding Rule → Finding (Unit {0}) → Type 0 where
    hits : (rule : Rule) → Alike (Hits rule) (Hits tt)
    empty : Alike EmptySlot EmptySlot
    others : Alike OtherModules OtherModules
    elsewhere : Alike OtherAddress OtherAddress

  by-tests : (g a : Bool) (rule : Rule) → Alike (if g then (if a then Hits rule else OtherAddress) else OtherModules) (if g then (if a then Hits tt else OtherAddress) else OtherModules)
  by-tests true true rule = hits rule
  by-tests true false rule = elsewhere
  by-tests false a rule = others

  alike-slot : (key : Key) (there : Option (KeptRule Rule)) → Alike (finding_for key there) (finding_for key (option_map bare_entry (key_in there)))
  alike-slot key None = empty
  alike-slot key (Some entry) = by-tests (entry.key.generation == key.generation) (entry.key.address == key.address && beq entry.key.is_first key.is_first) entry.rule

  or-alike : (one next : Finding Rule) (other following : Finding (Unit {0})) → Alike one other → Alike next following → Alike (or_else_finding one next) (or_else_finding other following)
  or-alike one next other following (hits rule) later = hits rule
  or-alike one next other following empty later = later
  or-alike one next other following others later = later
  or-alike one next other following elsewhere later = later

  alike-slots : (key : Key) (slots : List (Option (KeptRule Rule))) → Alike (finding_among key slots) (finding_among key (bare_slots (map key_in slots)))
  alike-slots key [] = empty
  alike-slots key (slot ∷ []) = alike-slot key slot
  alike-slots key (slot ∷ next ∷ slots) =
      or-alike (finding_for key slot) (finding_among key (next ∷ slots)) (finding_for key (option_map bare_entry (key_in slot))) (finding_among key (bare_slots (map key_in (next ∷ slots))))
      (alike-slot key slot) (alike-slots key (next ∷ slots))

  alike : (layout : Layout) (keys : List Key) (sets : Sets Rule) (key : Key) → HasLastKeys layout keys sets → Alike (found_in layout sets key) (finding_after layout keys key)
  alike layout keys sets key has =
      subst (λ slots. Alike (found_in layout sets key) (finding_among key (bare_slots slots))) (has.each (set_of layout key.address)) (alike-slots key (slots_of layout sets (set_of layout key.address)))

  missed-kept : (layout : Layout) (keys : List Key) (sets : Sets Rule) (key : Key) (rule : Option Rule) (one : Finding Rule) (other : Finding (Unit {0})) → Alike one other → HasLastKeys layout keys sets → HasLastKeys layout (with_missed_key keys key rule other) (with_missed layout sets key rule one)
  missed-kept layout keys sets key rule one other (hits hit) has = has
  missed-kept layout keys sets key rule one other empty has = any-kept layout keys sets key rule has
  missed-kept layout keys sets key rule one other others has = any-kept layout keys sets key rule has
  missed-kept layout keys sets key rule one other elsewhere has = any-kept layout keys sets key rule has

  -- after a step the sets have the last of the keys then
  pub keys-kept : (wanted : Bool) (kept : Key → Option Rule) (key : Key) (layout : Layout) (keys : List Key) (sets : Sets Rule) → HasLastKeys layout keys sets → HasLastKeys layout (keys_after wanted kept key layout keys) (sets_after wanted kept key layout sets)
  keys-kept true kept key layout keys sets has = has
  keys-kept false kept key layout keys sets has = missed-kept layout keys sets key (kept key) (found_in layout sets key) (finding_after layout keys key) (alike layout keys sets key has) has

  same-counts : (one : Finding Rule) (other : Finding (Unit {0})) (counts : CacheStats) → Alike one other → counts_after one counts ≡ counts_after other counts
  same-counts one other counts (hits hit) = refl
  same-counts one other counts empty = refl
  same-counts one other counts others = refl
  same-counts one other counts elsewhere = refl

  -- and the keys decide what is counted
  pub keys-count : (layout : Layout) (keys : List Key) (sets : Sets Rule) (key : Key) (counts : CacheStats) → HasLastKeys layout keys sets → counts_after (found_in layout sets key) counts ≡ counts_after (finding_after layout keys key) counts
  keys-count layout keys sets key counts has = same-counts (found_in layout sets key) (finding_after layout keys key) counts (alike layout keys sets key has)
