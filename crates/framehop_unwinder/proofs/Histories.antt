-- Caches keep to their histories: a new cache, one more cache, and a step through one of them.
use Rattle.std.proofs.Common.{◌≡◌, ◌∙◌, ℕ, zero, suc, ap, sym, subst, refl, Bool, List, [], ◌∷◌, ◌++◌, Option, Some, None}
use Rattle.std.specs.Prelude.{option_map, unwrap_or}
use Rattle.framehop_rules.specs.Occupancy.{occupancy_of}
use Rattle.framehop_rules.specs.Slots.{Key, Kept, counts_after, found_in, layout_of, new_kept}
use Rattle.framehop_unwinder.specs.ByNumber.{held, with_changed}
use Rattle.framehop_unwinder.specs.History.{KeyHistory, no_history, history_at, history_after, histories_after, finding_after, keys_after, occupancy_after, HasHistory, HasHistoryIfHeld, HasLastKeys, HaveHistories}
use Rattle.framehop_unwinder.specs.RulesKept.{sets_after}
use Rattle.framehop_unwinder.proofs.KeyLists.{no-keys, keys-kept, keys-count}
use Rattle.framehop_unwinder.proofs.Occupancies.{occupancy-has}

-- what stands in a cache after a step
abbrev pub stands_after : {Rule : Type 0} → Bool → (Key → Option Rule) → Key → Kept Rule → Kept Rule
stands_after wanted kept key cache = record {
  layout = cache.layout;
  sets = sets_after wanted kept key cache.layout cache.sets;
  counts = counts_after (found_in cache.layout cache.sets key) cache.counts;
}

module _ {Rule : Type 0} where
  pub new-has : (slots : ℕ) → HasHistory {Rule = Rule} (no_history slots) (new_kept slots)
  new-has slots = record { layout = refl; keys = no-keys (layout_of slots); counts = refl }

  pub push-have : (histories : List (Option KeyHistory)) (caches : List (Option (Kept Rule))) (history : KeyHistory) (cache : Kept Rule) → HaveHistories histories caches → HasHistory history cache → HaveHistories (histories ++ Some history ∷ []) (caches ++ Some cache ∷ [])
  push-have [] [] history cache have has = (has, tt)
  push-have [] (c ∷ caches) history cache have has = absurd have
  push-have (h ∷ histories) [] history cache have has = absurd have
  push-have (h ∷ histories) (c ∷ caches) history cache have has = (have.0, push-have histories caches history cache have.1 has)

  step-has : (wanted : Bool) (kept : Key → Option Rule) (key : Key) (history : KeyHistory) (cache : Kept Rule) → HasHistory history cache → HasHistory (history_after wanted kept key history) (stands_after wanted kept key cache)
  step-has wanted kept key history cache has = record {
    layout = has.layout;
    keys = subst (λ layout. HasLastKeys history.layout (keys_after wanted kept key history.layout history.keys) (sets_after wanted kept key layout cache.sets)) (sym has.layout)
        (keys-kept wanted kept key history.layout history.keys cache.sets has.keys);
    counts = ap (λ layout. counts_after (found_in layout cache.sets key) cache.counts) has.layout
        ∙ keys-count history.layout history.keys cache.sets key cache.counts has.keys ∙ ap (counts_after (finding_after history.layout history.keys key)) has.counts;
  }

  step-if-held : (wanted : Bool) (kept : Key → Option Rule) (key : Key) (history : Option KeyHistory) (cache : Option (Kept Rule)) → HasHistoryIfHeld history cache
      → HasHistoryIfHeld (option_map (history_after wanted kept key) history) (option_map (stands_after wanted kept key) cache)
  step-if-held wanted kept key None None has = tt
  step-if-held wanted kept key None (Some cache) has = absurd has
  step-if-held wanted kept key (Some history) None has = absurd has
  step-if-held wanted kept key (Some history) (Some cache) has = step-has wanted kept key history cache has

  pub step-have : (wanted : Bool) (kept : Key → Option Rule) (key : Key) (histories : List (Option KeyHistory)) (caches : List (Option (Kept Rule))) (i : ℕ) → HaveHistories histories caches
      → HaveHistories (histories_after wanted kept key i histories) (with_changed (stands_after wanted kept key) caches i)
  step-have wanted kept key [] [] i have = tt
  step-have wanted kept key [] (c ∷ caches) i have = absurd have
  step-have wanted kept key (h ∷ histories) [] i have = absurd have
  step-have wanted kept key (h ∷ histories) (c ∷ caches) zero have = (step-if-held wanted kept key h c have.0, have.1)
  step-have wanted kept key (h ∷ histories) (c ∷ caches) (suc i) have = (have.0, step-have wanted kept key histories caches i have.1)

  counts-if-held : (history : Option KeyHistory) (cache : Option (Kept Rule)) (read : Kept Rule) → HasHistoryIfHeld history cache → cache ≡ Some read → read.counts ≡ (unwrap_or history (no_history 509)).counts
  counts-if-held None None read has is = absurd (let no : None ≡ Some read = is in cc)
  counts-if-held None (Some cache) read has is = absurd has
  counts-if-held (Some history) None read has is = absurd has
  counts-if-held (Some history) (Some cache) read has is = ap (λ (o : Option (Kept Rule)). (unwrap_or o read).counts) (sym is) ∙ has.counts

  pub counts-have : (histories : List (Option KeyHistory)) (caches : List (Option (Kept Rule))) (i : ℕ) (read : Kept Rule) → held caches i ≡ Some read → HaveHistories histories caches → read.counts ≡ (history_at histories i).counts
  counts-have [] [] i read is have = absurd (let no : None ≡ Some read = is in cc)
  counts-have [] (c ∷ caches) i read is have = absurd have
  counts-have (h ∷ histories) [] i read is have = absurd have
  counts-have (h ∷ histories) (c ∷ caches) zero read is have = counts-if-held h c read have.0 is
  counts-have (h ∷ histories) (c ∷ caches) (suc i) read is have = counts-have histories caches i read is have.1

  occupancy-if-held : (history : Option KeyHistory) (cache : Option (Kept Rule)) (read : Kept Rule) → HasHistoryIfHeld history cache → cache ≡ Some read
      → occupancy_of read ≡ occupancy_after (unwrap_or history (no_history 509))
  occupancy-if-held None None read has is = absurd (let no : None ≡ Some read = is in cc)
  occupancy-if-held None (Some cache) read has is = absurd has
  occupancy-if-held (Some history) None read has is = absurd has
  occupancy-if-held (Some history) (Some cache) read has is = ap (λ (o : Option (Kept Rule)). occupancy_of (unwrap_or o read)) (sym is) ∙ occupancy-has history cache has

  pub occupancy-have : (histories : List (Option KeyHistory)) (caches : List (Option (Kept Rule))) (i : ℕ) (read : Kept Rule) → held caches i ≡ Some read → HaveHistories histories caches
      → occupancy_of read ≡ occupancy_after (history_at histories i)
  occupancy-have [] [] i read is have = absurd (let no : None ≡ Some read = is in cc)
  occupancy-have [] (c ∷ caches) i read is have = absurd have
  occupancy-have (h ∷ histories) [] i read is have = absurd have
  occupancy-have (h ∷ histories) (c ∷ caches) zero read is have = occupancy-if-held h c read have.0 is
  occupancy-have (h ∷ histories) (c ∷ caches) (suc i) read is have = occupancy-have histories caches i read is have.1
