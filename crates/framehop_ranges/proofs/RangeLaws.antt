-- What a range at the end makes of ranges.
use Rattle.std.proofs.Common.{◌≡◌, ◌≢◌, ℕ, zero, suc, ◌<◌, ◌≤◌, ◌-◌, ◌^◌, true, false, if◌then◌else◌, List, [], ◌∷◌, ◌++◌, length, get_or, refl, ap, ◌∙◌, arith, length-append}
use Rattle.std.specs.Prelude.{nat_le, nat_lt, Some, slice_get}
use Rattle.std.specs.List.{All, AllWithin}
use Rattle.std.proofs.lemmas.Bool.Decides.{nat_tests}
use Rattle.std.proofs.lemmas.List.{get_or_push, get_or_append_left}
use Rattle.std.proofs.lemmas.List.Elements.{All-append, All-cons, All-head, All-nil, All-tail}
use Rattle.list_laws.proofs.Laws.{by_case}
use Rattle.framehop_ranges.specs.declared.entry.RangeEntry.{RangeEntry}
use Rattle.framehop_ranges.specs.declared.ranges.Ranges.{Ranges}
use Rattle.framehop_ranges.specs.RangeValues.{Differ, value_from, value_in, last_or}
use Rattle.framehop_ranges.specs.Ranges.{Sound, Extends}
use Rattle.framehop_ranges.specs.Rises.{Rises}

module _ {V : Type 0} where
  -- an entry more has its value from its start on, whatever is before it
  pub value-push : (before : V) (entries : List (RangeEntry V)) (new : RangeEntry V) (address : ℕ)
      → value_from before (entries ++ new ∷ []) address ≡ (if nat_le new.start address then new.value else value_from before entries address)
  value-push before [] new address = refl
  value-push before (e ∷ entries) new address = value-push (if nat_le e.start address then e.value else before) entries new address

  -- at and above each start there is the last value
  pub value-last : (before : V) (entries : List (RangeEntry V)) (address : ℕ) → All (λ entry. entry.start ≤ address) entries → value_from before entries address ≡ last_or before entries
  value-last before [] address low = refl
  value-last before (e ∷ entries) address low =
      let here : e.start ≤ address = All-head (λ entry. entry.start ≤ address) e entries low in
      let is : nat_le e.start address ≡ true = grind (arith, nat_tests) in
      rw is (value-last e.value entries address (All-tail (λ entry. entry.start ≤ address) e entries low))

  -- below each start there is the value before the first
  pub value-none : (before : V) (entries : List (RangeEntry V)) (address : ℕ) → AllWithin (λ entry. address < entry.start) entries 0 (length entries) → value_from before entries address ≡ before
  value-none before [] address high = refl
  value-none before (e ∷ entries) address high =
      let here : address < e.start = high 0 e (omega arith) (omega arith) in
      let is : nat_le e.start address ≡ false = grind (arith, nat_tests) in
      rw is (value-none before entries address (λ k d l h. high (suc k) d (omega arith) (omega arith)))

  -- if the first so many start at or below an address and no other, the value is that of the last of these
  pub value-at : (before : V) (entries : List (RangeEntry V)) (address count : ℕ) (d : RangeEntry V) → suc count ≤ length entries → AllWithin (λ entry. entry.start ≤ address) entries 0 (suc count)
      → AllWithin (λ entry. address < entry.start) entries (suc count) (length entries) → value_from before entries address ≡ (get_or entries count d).value
  value-at before [] address count d within low high = absurd (omega arith)
  value-at before (e ∷ entries) address zero d within low high =
      let here : e.start ≤ address = low 0 e (omega arith) (omega arith) in
      let is : nat_le e.start address ≡ true = grind (arith, nat_tests) in
      rw is (value-none e.value entries address (λ k d l h. high (suc k) d (omega arith) (omega arith)))
  value-at before (e ∷ entries) address (suc count) d within low high =
      let here : e.start ≤ address = low 0 e (omega arith) (omega arith) in
      let is : nat_le e.start address ≡ true = grind (arith, nat_tests) in
      rw is (value-at e.value entries address count d (omega arith) (λ k d l h. low (suc k) d (omega arith) (omega arith)) (λ k d l h. high (suc k) d (omega arith) (omega arith)))

  -- .. with the count of those
  pub value-found : (before : V) (entries : List (RangeEntry V)) (address all count : ℕ) (d : RangeEntry V) → all ≡ suc count → all ≤ length entries → AllWithin (λ entry. entry.start ≤ address) entries 0 all
      → AllWithin (λ entry. address < entry.start) entries all (length entries) → value_from before entries address ≡ (get_or entries count d).value
  value-found before entries address all count d is within low high =
      value-at before entries address count d (omega arith) (λ k e l h. low k e l (omega arith)) (λ k e l h. high k e (omega arith) h)

  -- the last of some values
  pub last-is : (before : V) (entries : List (RangeEntry V)) (entry : RangeEntry V) → slice_get entries (length entries - 1) ≡ Some entry → last_or before entries ≡ entry.value
  last-is before [] entry h = cc
  last-is before (v ∷ []) entry h = let same : v ≡ entry = cc in ap (λ (e : RangeEntry V). e.value) same
  last-is before (v ∷ w ∷ entries) entry h =
      let next : length (v ∷ w ∷ entries) - 1 ≡ suc (length (w ∷ entries) - 1) = omega arith in
      last-is v.value (w ∷ entries) entry (rw next at h)

-- starts rise if one more is above all of them
rises-push : {V : Type 0} (xs : List (RangeEntry V)) (y : RangeEntry V) → Rises xs → All (λ x. x.start < y.start) xs → Rises (xs ++ y ∷ [])
rises-push xs y up below i j d less within =
    by_case (nat_lt j (length xs))
    (λ is.
    let inside : j < length xs = grind (arith, nat_tests) in
    rw (get_or_append_left xs (y ∷ []) d i (omega arith), get_or_append_left xs (y ∷ []) d j inside) (up i j d less inside))
    (λ is.
    let outside : length xs ≤ j = grind (arith, nat_tests) in
    let here : length xs ≡ j = omega (arith, within, length-append xs (y ∷ [])) in
    rw (get_or_append_left xs (y ∷ []) d i (omega arith), get_or_push xs y d j here) (below i d (omega arith)))

-- each value is another than the one before it, if one more is another than the last
differ-push : {V : Type 0} (before : V) (entries : List (RangeEntry V)) (new : RangeEntry V) → Differ before entries → new.value ≢ last_or before entries → Differ before (entries ++ new ∷ [])
differ-push before [] new differ other zero d within = other
differ-push before [] new differ other (suc place) d within = absurd (omega arith)
differ-push before (e ∷ entries) new differ other zero d within = differ 0 d (omega arith)
differ-push before (e ∷ entries) new differ other (suc place) d within =
    differ-push e.value entries new (λ k x h. differ (suc k) x (omega (arith, h))) other place d (omega (arith, within))

module _ {V : Type 0} (old new : Ranges V) (end : ℕ) (value : V) (sound : Sound old) where
  module _ (more : old.done < end) (same : new.before ≡ old.before) (done : new.done ≡ end) where
    -- another value than the last has a start of its own
    pub pushed : end ≤ 2 ^ 32 → value ≢ last_or old.before old.entries.items → new.entries.items ≡ old.entries.items ++ record { start = old.done; value = value } ∷ [] → Extends old end value new
    unfolding value_in
    pushed fits other entries =
        let entry : RangeEntry V = record { start = old.done; value = value } in
        record {
          sound = record {
            rises = rw entries (rises-push old.entries.items entry sound.rises sound.below);
            below = rw entries (All-append (λ e. e.start < new.done) old.entries.items (entry ∷ []) (λ k d h. let low = sound.below k d h in omega arith) (All-cons (λ e. e.start < new.done) entry [] (omega arith) (All-nil (λ (e : RangeEntry V). e.start < new.done))));
            fit = rw entries (All-append (λ e. e.start < 2 ^ 32) old.entries.items (entry ∷ []) sound.fit (All-cons (λ e. e.start < 2 ^ 32) entry [] (omega arith) (All-nil (λ (e : RangeEntry V). e.start < 2 ^ 32))));
            differ = rw (entries, same) (differ-push old.before old.entries.items entry sound.differ other);
          };
          same = same;
          done = omega arith;
          few = omega (arith, ap length entries, length-append old.entries.items (entry ∷ []));
          below = λ address below.
              let is : nat_le old.done address ≡ false = grind (arith, nat_tests) in
              rw (entries, same) (value-push old.before old.entries.items entry address ∙ rw is refl);
          from = λ address high below.
              let is : nat_le old.done address ≡ true = grind (arith, nat_tests) in
              rw (entries, same) (value-push old.before old.entries.items entry address ∙ rw is refl);
        }

    -- the last value goes on
    pub spread : new.entries.items ≡ old.entries.items → last_or old.before old.entries.items ≡ value → Extends old end value new
    unfolding value_in
    spread entries last = record {
      sound = record {
        rises = rw entries sound.rises;
        below = rw entries (λ k d h. let low = sound.below k d h in omega arith);
        fit = rw entries sound.fit;
        differ = rw (entries, same) sound.differ;
      };
      same = same;
      done = omega arith;
      few = omega (arith, ap length entries);
      below = λ address below. rw (entries, same) refl;
      from = λ address high below.
          rw (entries, same) (value-last old.before old.entries.items address (λ k d h. let low = sound.below k d h in omega arith) ∙ last);
    }
