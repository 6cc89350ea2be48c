-- Sessions in order stay so: what is put in a slot, changed there or let go.
use Rattle.std.proofs.Common.{◌≡◌, ◌∙◌, ◌≢◌, ℕ, ◌+◌, ◌<◌, Bool, true, false, List, [], ◌∷◌, ◌++◌, Option, Some, None, sym, ap, subst, refl, map, length, get_or}
use Rattle.std.specs.Prelude.{option_map, is_some, slice_set, Result, Ok, Err, IsErr, ◌&&◌}
use Rattle.std.specs.List.{All}
use Rattle.std.proofs.lemmas.List.{map-set, map_push, set-get_or}
use Rattle.framehop_rules.specs.Slots.{Kept}
use Rattle.framehop_unwinder.specs.Attempt.{Meanings}
use Rattle.framehop_unwinder.specs.ByNumber.{AreNumbered, by_number_of, held, is_held}
use Rattle.framehop_unwinder.specs.CacheViews.{rules_of}
use Rattle.framehop_unwinder.specs.IdViews.{FindsHeld}
use Rattle.framehop_unwinder.specs.Modules.{Loaded, Loads}
use Rattle.framehop_unwinder.specs.NumberedViews.{IsNumbered, by_number}
use Rattle.framehop_unwinder.specs.RulesKept.{Sets}
use Rattle.framehop_unwinder.specs.SessionViews.{IsInOrder, caches_by_number}
use Rattle.framehop_unwinder.specs.State.{IsSound, SessionState, sets_of_all}
use Rattle.framehop_unwinder.specs.declared.cache.Cache.{Cache}
use Rattle.framehop_unwinder.specs.declared.numbered.Numbered.{Numbered}
use Rattle.framehop_unwinder.proofs.ByNumbers.{by-number-none, by-number-read, by-number-set, numbered-set}
use Rattle.framehop_unwinder.proofs.Held.{held-map}
use Rattle.framehop_unwinder.proofs.Sound.{sound_without, sound_without_cache}

mapped-some : {X Y : Type 0} (f : X → Y) (o : Option X) → is_some (option_map f o) ≡ is_some o
mapped-some f None = refl
mapped-some f (Some x) = refl

-- a value is held where its view is
pub held-mapped : {X Y : Type 0} (f : X → Y) (xs : List (Option X)) (i : ℕ) → is_held (map (option_map f) xs) i ≡ is_held xs i
held-mapped f xs i = ap is_some (held-map f xs i) ∙ mapped-some f (held xs i)

pub and-false : (a b : Bool) → b ≡ false → (a && b) ≡ false
and-false true b none = none
and-false false b none = refl

pub and-true : (a b : Bool) → a ≡ true → b ≡ true → (a && b) ≡ true
and-true a b one other = rw one other

-- a call that finds what is held, and one that doesn't
pub finds : {X A E : Type 0} (there : Bool) (answer : A) (old new : X) → there ≡ true → FindsHeld {X = X} {A = A} {E = E} there (Ok answer) old new
finds there answer old new is = record {
  stale = λ gone. absurd (let no : false ≡ true = sym gone ∙ is in cc);
  only = tt;
  same = tt;
}

pub finds-none : {X A E : Type 0} (there : Bool) (error : E) (old new : X) → there ≡ false → new ≡ old → FindsHeld {X = X} {A = A} {E = E} there (Err error) old new
finds-none there error old new is same = record { stale = λ gone. refl; only = is; same = same }

module _ {X : Type 0} (old new : Numbered X) (numbers : new.numbers.items ≡ old.numbers.items) (next : new.next ≡ old.next) where
  -- slots with these values
  by-values : (vs : List (Option X)) → new.values.items ≡ vs → by_number new ≡ by_number_of old.numbers.items vs old.next
  by-values vs is =
      ap (λ (ns : List ℕ). by_number_of ns new.values.items new.next) numbers
      ∙ ap (λ (xs : List (Option X)). by_number_of old.numbers.items xs new.next) is
      ∙ ap (λ (n : ℕ). by_number_of old.numbers.items vs n) next

  numbered-by-values : (vs : List (Option X)) → new.values.items ≡ vs → AreNumbered old.numbers.items vs old.next → IsNumbered new
  numbered-by-values vs is numbered = rw (numbers, is, next) numbered

  -- another value in the slot of a number
  pub put-in-slot : (s n : ℕ) (x : Option X) → new.values.items ≡ slice_set old.values.items s x → s < length old.numbers.items → get_or old.numbers.items s 0 ≡ n → IsNumbered old
      → (by_number new ≡ slice_set (by_number old) n x) × IsNumbered new
  put-in-slot s n x is less at numbered = (
    by-values (slice_set old.values.items s x) is ∙ by-number-set old.numbers.items old.values.items old.next numbered s n x less at,
    numbered-by-values (slice_set old.values.items s x) is (numbered-set old.numbers.items old.values.items old.next numbered s x),
  )

  -- the same value as before
  pub put-back : (s : ℕ) (x : Option X) → new.values.items ≡ slice_set old.values.items s x → x ≡ get_or old.values.items s x → IsNumbered old
      → (by_number new ≡ by_number old) × IsNumbered new
  put-back s x is was numbered =
      let same : new.values.items ≡ old.values.items = is ∙ ap (slice_set old.values.items s) was ∙ set-get_or old.values.items s x in
      (by-values old.values.items same, numbered-by-values old.values.items same numbered)

-- a cache that was read is the session's, and so if there is none
pub cache-read : {D R C Regs : Type 0} (session : SessionState D R) (caches : Numbered (Cache R C Regs)) (n : ℕ) (read : Option (Cache R C Regs)) → caches_by_number caches ≡ session.caches → held (by_number caches) n ≡ read
    → held session.caches n ≡ option_map rules_of read
cache-read {R} session caches n read is here =
    ap (λ (xs : List (Option (Kept R))). held xs n) (sym is) ∙ held-map rules_of (by_number caches) n ∙ ap (option_map rules_of) here

-- what the slot of a number has is held under it
pub held-in-slot : {X : Type 0} (slots : Numbered X) (s n : ℕ) (read : Option X) → IsNumbered slots → s < length slots.numbers.items → get_or slots.numbers.items s 0 ≡ n → read ≡ get_or slots.values.items s read → held (by_number slots) n ≡ read
held-in-slot slots s n read numbered less at is = by-number-read slots.numbers.items slots.values.items slots.next numbered s n read less at is

-- nothing is held under a number that no slot has
pub held-nowhere : {X : Type 0} (slots : Numbered X) (n : ℕ) → IsNumbered slots → All (λ number. number ≢ n) slots.numbers.items → held (by_number slots) n ≡ None
held-nowhere slots n numbered none = by-number-none slots.numbers.items slots.values.items slots.next numbered n none

module _ {D R C Regs : Type 0} (m : Meanings D R Regs) (next : ℕ) (us : Numbered (Loads (Loaded D))) (cs : Numbered (Cache R C Regs)) (order : IsInOrder m next us cs) where
  -- other unwinders
  pub order-of-unwinders : (after : ℕ) (new : Numbered (Loads (Loaded D))) (loads : List (Option (Loads (Loaded D)))) → IsNumbered new → by_number new ≡ loads
      → IsSound m after loads (sets_of_all (caches_by_number cs)) → IsInOrder m after new cs
  order-of-unwinders after new loads numbered is sound = record {
    unwinders_numbered = numbered;
    caches_numbered = order.caches_numbered;
    sound = subst (λ (us : List (Option (Loads (Loaded D)))). IsSound m after us (sets_of_all (caches_by_number cs))) (sym is) sound;
  }

  -- an unwinder is let go, if it is there
  pub order-without : (new : Numbered (Loads (Loaded D))) (n : ℕ) (done : Bool) → (done ≡ true → by_number new ≡ slice_set (by_number us) n None) → (done ≡ false → by_number new ≡ by_number us)
      → IsNumbered new → IsInOrder m next new cs
  order-without new n true removed same numbered =
      order-of-unwinders next new (slice_set (by_number us) n None) numbered (removed refl) (sound_without m next (by_number us) (sets_of_all (caches_by_number cs)) n order.sound)
  order-without new n false removed same numbered = order-of-unwinders next new (by_number us) numbered (same refl) order.sound

  -- other caches
  pub order-of-caches : (new : Numbered (Cache R C Regs)) (sets : List (Option (Sets R))) → IsNumbered new → sets_of_all (caches_by_number new) ≡ sets
      → IsSound m next (by_number us) sets → IsInOrder m next us new
  order-of-caches new sets numbered is sound = record {
    unwinders_numbered = order.unwinders_numbered;
    caches_numbered = numbered;
    sound = subst (λ (ss : List (Option (Sets R))). IsSound m next (by_number us) ss) (sym is) sound;
  }

  -- a cache is let go, if it is there
  pub order-without-cache : (new : Numbered (Cache R C Regs)) (n : ℕ) (done : Bool) → (done ≡ true → by_number new ≡ slice_set (by_number cs) n None) → (done ≡ false → by_number new ≡ by_number cs)
      → IsNumbered new → IsInOrder m next us new
  order-without-cache new n true removed same numbered =
      order-of-caches new (slice_set (sets_of_all (caches_by_number cs)) n None) numbered
      (ap (λ (xs : List (Option (Cache R C Regs))). sets_of_all (map (option_map rules_of) xs)) (removed refl)
      ∙ ap sets_of_all (map-set (option_map rules_of) (by_number cs) n None)
      ∙ map-set (option_map (λ (k : Kept R). k.sets)) (caches_by_number cs) n None)
      (sound_without_cache m next (by_number us) (sets_of_all (caches_by_number cs)) n order.sound)
  order-without-cache new n false removed same numbered =
      order-of-caches new (sets_of_all (caches_by_number cs)) numbered (ap (λ (xs : List (Option (Cache R C Regs))). sets_of_all (map (option_map rules_of) xs)) (same refl)) order.sound
