-- Where the value of entries changes.
use Rattle.std.proofs.Common.{◌≡◌, ◌≢◌, ℕ, zero, suc, ◌<◌, ◌≤◌, ◌-◌, ◌^◌, true, false, List, [], ◌∷◌, length, map, get_or, refl, sym, ap, subst, ◌∙◌, arith}
use Rattle.std.specs.Prelude.{Some, None, nat_le, nat_lt, slice_get}
use Rattle.std.specs.List.{All}
use Rattle.std.proofs.lemmas.Bool.Decides.{nat_tests}
use Rattle.std.proofs.lemmas.List.{get_or-map, length-map}
use Rattle.std.proofs.lemmas.List.Elements.{All-head, All-map, All-tail}
use Rattle.list_laws.proofs.Laws.{by_case}
use Rattle.framehop_ranges.specs.declared.entry.RangeEntry.{RangeEntry}
use Rattle.framehop_ranges.specs.Changes.{AreChanges, ChangesSo}
use Rattle.framehop_ranges.specs.RangeValues.{Differ, value_from, value_in}
use Rattle.framehop_ranges.specs.Rises.{Rises}

module _ {V : Type 0} where
  abbrev starts_of : List (RangeEntry V) → List ℕ
  starts_of entries = map (λ (entry : RangeEntry V). entry.start) entries

  -- below each start there is the value before the first
  value-below : (before : V) (entries : List (RangeEntry V)) (address : ℕ) → All (λ entry. address < entry.start) entries → value_from before entries address ≡ before
  value-below before [] address high = refl
  value-below before (e ∷ entries) address high =
      let here : address < e.start = All-head (λ (entry : RangeEntry V). address < entry.start) e entries high in
      let is : nat_le e.start address ≡ false = grind (arith, nat_tests) in
      rw is (value-below before entries address (All-tail (λ (entry : RangeEntry V). address < entry.start) e entries high))

  -- where no entry starts the value is that at the address before
  value-stays : (before : V) (entries : List (RangeEntry V)) (address : ℕ) → 0 < address → All (λ entry. entry.start ≢ address) entries → value_from before entries address ≡ value_from before entries (address - 1)
  value-stays before [] address some others = refl
  value-stays before (e ∷ entries) address some others =
      let here : e.start ≢ address = All-head (λ (entry : RangeEntry V). entry.start ≢ address) e entries others in
      let rest = All-tail (λ (entry : RangeEntry V). entry.start ≢ address) e entries others in
      by_case (nat_le e.start address)
      (λ is.
      let under : nat_le e.start (address - 1) ≡ true = grind (arith, nat_tests) in
      rw (is, under) (value-stays e.value entries address some rest))
      (λ is.
      let under : nat_le e.start (address - 1) ≡ false = grind (arith, nat_tests) in
      rw (is, under) (value-stays before entries address some rest))

  rises-above : (e : RangeEntry V) (entries : List (RangeEntry V)) → Rises (e ∷ entries) → All (λ entry. e.start < entry.start) entries
  rises-above e entries up k d within = up 0 (suc k) d (omega arith) (omega arith)

  rises-tail : (e : RangeEntry V) (entries : List (RangeEntry V)) → Rises (e ∷ entries) → Rises entries
  rises-tail e entries up i j d less within = up (suc i) (suc j) d (omega arith) (omega arith)

  -- where one starts it is another
  value-changes : (before : V) (entries : List (RangeEntry V)) (k : ℕ) (d : RangeEntry V) → Rises entries → Differ before entries → k < length entries → 0 < (get_or entries k d).start
      → value_from before entries (get_or entries k d).start ≢ value_from before entries ((get_or entries k d).start - 1)
  value-changes before [] k d up differ within some = absurd (omega arith)
  value-changes before (e ∷ entries) zero d up differ within some =
      let over : nat_le e.start e.start ≡ true = grind (arith, nat_tests) in
      let under : nat_le e.start (e.start - 1) ≡ false = grind (arith, nat_tests) in
      let high = rises-above e entries up in
      let here = value-below e.value entries e.start high in
      let low = value-below before entries (e.start - 1) (λ i x h. let above = high i x h in omega arith) in
      rw (over, under, here, low) (differ 0 d (omega arith))
  value-changes before (e ∷ entries) (suc k) d up differ within some =
      let above : e.start < (get_or entries k d).start = rises-above e entries up k d (omega arith) in
      let over : nat_le e.start (get_or entries k d).start ≡ true = grind (arith, nat_tests) in
      let under : nat_le e.start ((get_or entries k d).start - 1) ≡ true = grind (arith, nat_tests) in
      rw (over, under) (value-changes e.value entries k d (rises-tail e entries up) (λ j x h. differ (suc j) x (omega (arith, h))) (omega arith) some)

  no-entries : (entries : List (RangeEntry V)) → slice_get entries 0 ≡ None → length entries ≡ 0
  no-entries [] none = refl
  no-entries (e ∷ entries) none = cc

  module _ (f : ℕ → V) where
    -- entries whose starts are above 0 start where a function that has their values changes
    changes-above : (before : V) (entries : List (RangeEntry V)) → Rises entries → All (λ entry. entry.start < 2 ^ 32) entries → Differ before entries → All (λ entry. 0 < entry.start) entries
        → ((address : ℕ) → address < 2 ^ 32 → value_from before entries address ≡ f address) → AreChanges f (starts_of entries)
    changes-above before entries up fit differ above same =
        record {
          rise = λ i j less within.
              let d : RangeEntry V = record { start = 0; value = before } in
              let inside : j < length entries = omega (arith, length-map entries (λ (entry : RangeEntry V). entry.start)) in
              rw (get_or-map (λ (entry : RangeEntry V). entry.start) entries i d 0 (omega arith), get_or-map (λ (entry : RangeEntry V). entry.start) entries j d 0 inside) (up i j d less inside);
          above = All-map (λ n. 0 < n) (λ (entry : RangeEntry V). entry.start) entries above;
          fit = All-map (λ n. n < 2 ^ 32) (λ (entry : RangeEntry V). entry.start) entries fit;
          each = All-map (λ n. f n ≢ f (n - 1)) (λ (entry : RangeEntry V). entry.start) entries (λ k d h.
              let some = above k d h in
              let low = fit k d h in
              let here = same (get_or entries k d).start low in
              let under = same ((get_or entries k d).start - 1) (omega arith) in
              rw (sym here, sym under) (value-changes before entries k d up differ h some));
          others = λ address some low none.
              let starts : All (λ (entry : RangeEntry V). entry.start ≢ address) entries = λ k d h.
              (let inside : k < length (map (λ (entry : RangeEntry V). entry.start) entries) = omega (arith, length-map entries (λ (entry : RangeEntry V). entry.start)) in
              rw (get_or-map (λ (entry : RangeEntry V). entry.start) entries k d 0 h) at (none k 0 inside)) in
              sym (same address low) ∙ value-stays before entries address some starts ∙ same (address - 1) (omega arith);
        }

    -- .. so many
    of-all : (before : V) (entries : List (RangeEntry V)) → Rises entries → All (λ entry. entry.start < 2 ^ 32) entries → Differ before entries → All (λ entry. 0 < entry.start) entries
        → ((address : ℕ) → address < 2 ^ 32 → value_from before entries address ≡ f address) → ChangesSo f (length entries)
    of-all before entries up fit differ above same = record {
      addresses = starts_of entries;
      are = changes-above before entries up fit differ above same;
      number = length-map entries (λ (entry : RangeEntry V). entry.start);
    }

    module _ (before : V) (entries : List (RangeEntry V)) (up : Rises entries) (fit : All (λ entry. entry.start < 2 ^ 32) entries) (differ : Differ before entries)
        (same : (address : ℕ) → address < 2 ^ 32 → value_in before entries address ≡ f address) where
      -- without entries there is no change
      pub changes-of-none : slice_get entries 0 ≡ None → ChangesSo f 0
      unfolding value_in
      changes-of-none none =
          let empty = no-entries entries none in
          subst (ChangesSo f) empty (of-all before entries up fit differ (λ k d h. absurd (omega (arith, h, empty))) same)

      -- if the first starts above 0, all do
      pub changes-of-all : (first : RangeEntry V) → slice_get entries 0 ≡ Some first → 0 < first.start → ChangesSo f (length entries)
      unfolding value_in
      changes-of-all first is above = of-all before entries up fit differ (each entries up is) same
        where
          each : (xs : List (RangeEntry V)) → Rises xs → slice_get xs 0 ≡ Some first → All (λ entry. 0 < entry.start) xs
          each [] up is k d h = absurd (omega (arith, h))
          each (e ∷ xs) up is zero d h = let here : e ≡ first = cc in rw here (omega arith)
          each (e ∷ xs) up is (suc k) d h = let over = rises-above e xs up k d (omega (arith, h)) in omega arith

    -- if the first starts at 0, the others do
    others-of : (before : V) (e : RangeEntry V) (entries : List (RangeEntry V)) → e.start ≡ 0 → Rises (e ∷ entries) → All (λ entry. entry.start < 2 ^ 32) (e ∷ entries) → Differ before (e ∷ entries)
        → ((address : ℕ) → address < 2 ^ 32 → value_from before (e ∷ entries) address ≡ f address) → ChangesSo f (length entries)
    others-of before e entries first up fit differ same =
        of-all e.value entries (rises-tail e entries up) (All-tail (λ (entry : RangeEntry V). entry.start < 2 ^ 32) e entries fit) (λ j x h. differ (suc j) x (omega (arith, h)))
        (λ k d h. let above = rises-above e entries up k d h in omega arith)
        (λ address low.
        let over : nat_le e.start address ≡ true = grind (arith, nat_tests) in
        rw over at (same address low))

    pub changes-of-others : (before : V) (entries : List (RangeEntry V)) (first : RangeEntry V) → Rises entries → All (λ entry. entry.start < 2 ^ 32) entries → Differ before entries
        → ((address : ℕ) → address < 2 ^ 32 → value_in before entries address ≡ f address) → slice_get entries 0 ≡ Some first → first.start ≡ 0 → ChangesSo f (length entries - 1)
    unfolding value_in
    changes-of-others before [] first up fit differ same is start = cc
    changes-of-others before (e ∷ entries) first up fit differ same is start =
        let here : e ≡ first = cc in
        let others : suc (length entries) - 1 ≡ length entries = omega arith in
        rw others (others-of before e entries (rw here start) up fit differ same)
