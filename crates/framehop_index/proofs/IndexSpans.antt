-- Which FDE an index has from one start to the next.
use Rattle.std.proofs.Common.{◌≡◌, ℕ, ◌+◌, ◌≤◌, Bool, true, List, [], ◌∷◌, get_or, Option, Some, None, Result, Ok, refl, sym, ap, subst, ◌∙◌, arith}
use Rattle.std.specs.Prelude.{nat_le, option_map}
use Rattle.std.specs.List.{filter, find}
use Rattle.std.specs.List.Sorted.{IsNonDecreasingBy}
use Rattle.std.proofs.lemmas.Bool.Decides.{nat_tests}
use Rattle.std.proofs.lemmas.List.{get_or_default}
use Rattle.dwarf_constants.specs.declared.error.Error.{Error}
use Rattle.dwarf_frame_rows.specs.FrameSection.{FrameSection}
use Rattle.dwarf_frame_entries.specs.Entries.{Fde, fde_from_offset}
use Rattle.list_laws.specs.Greatest.{is_greatest}
use Rattle.list_laws.proofs.Laws.{by_case}
use Rattle.framehop_index.specs.declared.cfi_index.IndexedFde.{IndexedFde}
use Rattle.framehop_index.specs.CfiIndex.{Indexes}
use Rattle.framehop_index.specs.EntryFor.{has_index, indexed_entry, indexed_fdes}
use Rattle.framehop_index.specs.IndexSpans.{HasInSpans}
use Rattle.framehop_index.proofs.CfiIndexOrder.{last-at, last-none}
use Rattle.framehop_index.proofs.EntryPlaces.{indexed-there}

-- what is found among what passes passes
found-passes : {X : Type 0} (p q : X → Bool) (xs : List X) (x : X) → find p (filter q xs) ≡ Some x → q x ≡ true
found-passes p q [] x h = cc
found-passes {X} p q (y ∷ ys) x h =
    by_case (q y)
    (λ is.
    let inner : find p (y ∷ filter q ys) ≡ Some x = rw is at h in
    by_case (p y)
    (λ here. let same : Some y ≡ Some x = rw here at inner in let it : y ≡ x = cc in let P : X → Type 0 = λ z. q z ≡ true in subst P it is)
    (λ other. found-passes p q ys x (rw other at inner)))
    (λ is. found-passes p q ys x (rw is at h))

-- the FDE that an index has for an address starts at or below it
entry-starts : (section : FrameSection) (base relative : ℕ) (fde : Fde) → indexed_entry base relative section ≡ Some fde → fde.initial_address ≤ base + relative
unfolding indexed_entry
entry-starts section base relative fde is =
    by_case (has_index section)
    (λ has.
    let q : Fde → Bool = λ fde. nat_le fde.initial_address (base + relative) in
    let passes : nat_le fde.initial_address (base + relative) ≡ true = found-passes (is_greatest (λ fde. fde.initial_address) (filter q (indexed_fdes base section))) q (indexed_fdes base section) fde (rw has at is) in
    grind (arith, nat_tests))
    (λ has. let none : ◌≡◌ {A = Option Fde} None (Some fde) = rw has at is in cc)

-- .. also as it is read at its offset
offset-starts : (section : FrameSection) (base relative offset : ℕ) (fde : Fde) (found : Option Fde) → indexed_entry base relative section ≡ found → option_map (λ fde. fde.head.offset) found ≡ Some offset
    → fde_from_offset section offset ≡ Ok fde → fde.initial_address ≤ base + relative
offset-starts section base relative offset fde None is at there = let none : ◌≡◌ {A = Option ℕ} None (Some offset) = at in cc
offset-starts section base relative offset fde (Some g) is at there =
    let place : g.head.offset ≡ offset = cc in
    let read : ◌≡◌ {A = Result Fde Error} (Ok g) (Ok fde) = sym (indexed-there section base relative g is) ∙ ap (fde_from_offset section) place ∙ there in
    let same : g ≡ fde = cc in
    subst (λ (f : Fde). f.initial_address ≤ base + relative) same (entry-starts section base relative g is)

module _ (kept : List IndexedFde) (others base : ℕ) (section : FrameSection) (up : IsNonDecreasingBy (λ fde. fde.start) kept) (is : Indexes kept others base section) where
  pub in-spans : HasInSpans kept base section
  in-spans = record {
    none = λ relative d below.
        let none = last-none (λ fde. nat_le fde.start relative) kept
        (λ k e within.
        let first = up 0 k d (omega arith) within in
        let low = below (omega arith) in
        let same : get_or kept k d ≡ get_or kept k e = get_or_default kept k d e within in
        let start : (get_or kept k d).start ≡ (get_or kept k e).start = ap (λ fde. fde.start) same in
        grind (arith, nat_tests)) in
        sym (is.finds relative) ∙ ap (option_map (λ fde. fde.offset)) none;
    some = λ place relative d span.
        let last = last-at (λ fde. nat_le fde.start relative) kept place d span.within
        (λ k e less.
        let le = up k place d (omega arith) span.within in
        let same : get_or kept k d ≡ get_or kept k e = get_or_default kept k d e (omega (arith, span.within)) in
        let start : (get_or kept k d).start ≡ (get_or kept k e).start = ap (λ fde. fde.start) same in
        let from = span.from in
        grind (arith, nat_tests))
        (λ k e more within.
        let le = up (place + 1) k d (omega arith) within in
        let same : get_or kept k d ≡ get_or kept k e = get_or_default kept k d e within in
        let start : (get_or kept k d).start ≡ (get_or kept k e).start = ap (λ fde. fde.start) same in
        let below = span.below (omega arith) in
        grind (arith, nat_tests)) in
        sym (is.finds relative) ∙ ap (option_map (λ fde. fde.offset)) last;
    starts = λ relative offset fde at there. offset-starts section base relative offset fde (indexed_entry base relative section) refl at there;
  }
