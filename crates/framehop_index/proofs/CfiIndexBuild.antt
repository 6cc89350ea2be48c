-- An index that is sorted from the FDEs of a section finds what the section's index has.
use Rattle.std.proofs.Common.{◌≡◌, ◌≢◌, ◌⊎◌, inl, inr, ℕ, suc, ◌+◌, ◌-◌, ◌<◌, ◌≤◌, Bool, true, false, cond, List, [], ◌∷◌, ◌++◌, length, map, reverse, Option, Some, None, Result, Ok, Err, nat_cmp, is_lt, refl, sym, ap, ◌∙◌, arith, subst}
use Rattle.std.specs.Prelude.{nat_le, nat_lt, is_none, option_map}
use Rattle.std.specs.List.{All, cons_option, count_by, filter, filter_map, find, list_all}
use Rattle.std.specs.Result.{IsErr, IsErrAnd, result_ok}
use Rattle.std.specs.List.Sorted.{IsNonDecreasingBy, IsPermutation, IsStableByKey, ties}
use Rattle.std.proofs.lemmas.Bool.{and_parts}
use Rattle.std.proofs.lemmas.Bool.Decides.{nat_tests}
use Rattle.std.proofs.lemmas.List.{append-nil, append_assoc, length-map, length-reverse}
use Rattle.std.proofs.lemmas.List.Elements.{All-nil, All-cons, All-head, All-tail}
use Rattle.std.proofs.lemmas.List.Sorted.{All-permutation, IsPermutation-sym, IsPermutation-reverse, IsPermutation-trans, length_permutation}
use Rattle.std.proofs.lemmas.List.Sums.{sum_by-cons}
use Rattle.dwarf_constants.specs.declared.error.Error.{Error}
use Rattle.dwarf_frame_rows.specs.FrameSection.{FrameSection}
use Rattle.framehop_index.specs.declared.cfi_index.IndexedFde.{IndexedFde}
use Rattle.framehop_errors.specs.declared.cfi_index.DwarfCfiIndexError.{DwarfCfiIndexError}
use Rattle.framehop_errors.specs.declared.cfi_index.DwarfCfiIndexError.TheVariants.{Gimli, OutOfMemory}
use Rattle.dwarf_frame_entries.specs.Entries.{AnyEntry, Cie, Fde, PartialFde, fde_of}
use Rattle.dwarf_frame_entries.specs.EntryLists.{ListEnd, SectionEnd, Terminator, Failed, end_error, entries_of, list_end, list_error}
use Rattle.dwarf_frame_entries.specs.SectionFdes.{fde_in, whole_fdes, nearest_fde}
use Rattle.dwarf_frame_entries.specs.declared.entries.Entry.TheVariants as which
use Rattle.dwarf_frame_entries.proofs.Laws.{entries_within_bytes}
use Rattle.framehop_index.specs.EntryFor.{fits_index, has_index, index_error, indexed_entry, indexed_fdes, is_left_out, left_out}
use Rattle.list_laws.specs.Greatest.{is_greatest, greater}
use Rattle.list_laws.specs.Last.{last_of}
use Rattle.framehop_index.specs.CfiIndex.{IsMadeOf, Indexes, KeepsAll, entry_kept, index_entry, offset_by_index}
use Rattle.list_laws.proofs.Laws.{by_case}
use Rattle.framehop_index.proofs.EntryIndex.{later_of, find-has, indexed-cons}
use Rattle.framehop_index.proofs.CfiIndexOrder.{none-passes, last-passes, none-higher, last-alike, find-back}

-- ---- what an index can hold

-- its start isn't below the base
starts-above : (base : ℕ) (f : Fde) → fits_index base f ≡ true → base ≤ f.initial_address
starts-above base f h = grind (arith, nat_tests)

-- ---- of the FDEs, the one with the greatest start

-- no FDE at or below the address starts above a bound
all-under : (base a bound : ℕ) (fs : List Fde) → list_all (fits_index base) fs ≡ true
    → All (λ y. nat_le y.start a ≡ true → y.start ≤ bound) (map (index_entry base) fs)
    → All (λ f. f.initial_address ≤ base + bound) (filter (λ f. nat_le f.initial_address (base + a)) fs)
all-under base a bound [] fit all = All-nil (λ f. f.initial_address ≤ base + bound)
all-under base a bound (f ∷ fs) fit all =
    let (here, others) = and_parts (fits_index base f) (list_all (fits_index base) fs) fit in
    let rest = all-under base a bound fs others (All-tail (λ y. nat_le y.start a ≡ true → y.start ≤ bound) (index_entry base f) (map (index_entry base) fs) all) in
    let above : base ≤ f.initial_address = starts-above base f here in
    let first = All-head (λ y. nat_le y.start a ≡ true → y.start ≤ bound) (index_entry base f) (map (index_entry base) fs) all in
    by_case (nat_le f.initial_address (base + a))
    (λ is.
    let le : nat_le (f.initial_address - base) a ≡ true = grind arith in
    let under : f.initial_address - base ≤ bound = first le in
    rw is (All-cons (λ f. f.initial_address ≤ base + bound) f (filter (λ f. nat_le f.initial_address (base + a)) fs) (omega arith) rest))
    (λ is. rw is rest)

under : (base a bound : ℕ) (fs : List Fde) (g : Fde) → list_all (fits_index base) fs ≡ true
    → All (λ y. nat_le y.start a ≡ true → y.start ≤ bound) (map (index_entry base) fs)
    → nearest_fde (base + a) fs ≡ Some g → g.initial_address ≤ base + bound
under base a bound fs g fit all found =
    let within : List Fde = filter (λ f. nat_le f.initial_address (base + a)) fs in
    find-has (λ f. f.initial_address ≤ base + bound) (is_greatest (λ f. f.initial_address) within) within g (all-under base a bound fs fit all) found

-- the first of the FDEs with a start, where no other at or below the address starts above it
pub first-greatest : (base a : ℕ) (fs : List Fde) (x : IndexedFde) (p : IndexedFde → Bool)
    → ((y : IndexedFde) → p y ≡ true → y.start ≡ x.start) → ((y : IndexedFde) → y.start ≡ x.start → p y ≡ true)
    → x.start ≤ a → list_all (fits_index base) fs ≡ true → find p (map (index_entry base) fs) ≡ Some x
    → All (λ y. nat_le y.start a ≡ true → y.start ≤ x.start) (map (index_entry base) fs)
    → (g : Fde) × (nearest_fde (base + a) fs ≡ Some g) × (g.initial_address ≡ base + x.start) × (g.head.offset ≡ x.offset)
first-greatest base a [] x p only all low fit found greatest = cc
first-greatest base a (f ∷ fs) x p only all low fit found greatest =
    let (here, others) = and_parts (fits_index base f) (list_all (fits_index base) fs) fit in
    let above : base ≤ f.initial_address = starts-above base f here in
    let rest = All-tail (λ y. nat_le y.start a ≡ true → y.start ≤ x.start) (index_entry base f) (map (index_entry base) fs) greatest in
    let first = All-head (λ y. nat_le y.start a ≡ true → y.start ≤ x.start) (index_entry base f) (map (index_entry base) fs) greatest in
    let made : nearest_fde (base + a) (f ∷ fs) ≡ later_of (cond (nat_le f.initial_address (base + a)) (Some f) None) (nearest_fde (base + a) fs) = indexed-cons (base + a) f fs in
    by_case (p (index_entry base f))
    (λ is.
    let same : Some (index_entry base f) ≡ Some x = rw is at found in
    let it : index_entry base f ≡ x = cc in
    let start : f.initial_address - base ≡ x.start = ap (λ y. y.start) it in
    let place : f.head.offset ≡ x.offset = ap (λ y. y.offset) it in
    let near : nat_le f.initial_address (base + a) ≡ true = grind arith in
    let equal : f.initial_address ≡ base + x.start = omega arith in
    let stays : later_of (Some f) (nearest_fde (base + a) fs) ≡ Some f = none-later (nearest_fde (base + a) fs) (λ g e. let le = under base a x.start fs g others rest e in omega arith) in
    (f, made ∙ ap (λ b. later_of (cond b (Some f) None) (nearest_fde (base + a) fs)) near ∙ stays, equal, place))
    (λ is.
    let (g, found_, start, place) = first-greatest base a fs x p only all low others (rw is at found) rest in
    by_case (nat_le f.initial_address (base + a))
    (λ near.
    let le : nat_le (f.initial_address - base) a ≡ true = grind arith in
    let under : f.initial_address - base ≤ x.start = first le in
    let before : f.initial_address < g.initial_address = before_if g x.start above under start (λ e. let yes = all (index_entry base f) e in cc) in
    (g, made ∙ ap (λ b. later_of (cond b (Some f) None) (nearest_fde (base + a) fs)) near ∙ ap (later_of (Some f)) found_ ∙ ap (λ h. Some h) (goes-later g before), start, place))
    (λ far. (g, made ∙ ap (λ b. later_of (cond b (Some f) None) (nearest_fde (base + a) fs)) far ∙ found_, start, place)))
  where
    none-later : (o : Option Fde) → ((g : Fde) → o ≡ Some g → g.initial_address ≤ f.initial_address) → later_of (Some f) o ≡ Some f
    none-later None h = refl
    none-later (Some g) h = let le = h g refl in let test : nat_lt f.initial_address g.initial_address ≡ false = grind arith in rw test refl

    before_if : (g : Fde) (start : ℕ) → base ≤ f.initial_address → f.initial_address - base ≤ start → g.initial_address ≡ base + start → (f.initial_address - base ≡ start → ⊥) → f.initial_address < g.initial_address
    before_if g start above le is not = omega arith

    goes-later : (g : Fde) → f.initial_address < g.initial_address → greater (λ fde. fde.initial_address) f g ≡ g
    goes-later g lt = let test : nat_lt f.initial_address g.initial_address ≡ true = grind arith in rw test refl

-- where each FDE starts above the address, none is indexed
none-indexed : (base a : ℕ) (fs : List Fde) → list_all (fits_index base) fs ≡ true → All (λ y. nat_le y.start a ≡ false) (map (index_entry base) fs)
    → filter (λ f. nat_le f.initial_address (base + a)) fs ≡ []
none-indexed base a [] fit all = refl
none-indexed base a (f ∷ fs) fit all =
    let (here, others) = and_parts (fits_index base f) (list_all (fits_index base) fs) fit in
    let above : base ≤ f.initial_address = starts-above base f here in
    let first : nat_le (f.initial_address - base) a ≡ false = All-head (λ y. nat_le y.start a ≡ false) (index_entry base f) (map (index_entry base) fs) all in
    let far : nat_le f.initial_address (base + a) ≡ false = grind arith in
    rw far (none-indexed base a fs others (All-tail (λ y. nat_le y.start a ≡ false) (index_entry base f) (map (index_entry base) fs) all))

-- ---- what is sorted

same_start : (m n : ℕ) → (ties (λ x y. is_lt (nat_cmp x y)) m n ≡ true → n ≡ m) × (n ≡ m → ties (λ x y. is_lt (nat_cmp x y)) m n ≡ true)
same_start m n = (λ h. grind (arith, nat_tests), λ h. grind (arith, nat_tests))

-- what passes a filter all fits
filtered-fit : (base : ℕ) (fs : List Fde) → list_all (fits_index base) (filter (fits_index base) fs) ≡ true
filtered-fit base [] = refl
filtered-fit base (f ∷ fs) = by_case (fits_index base f) (λ is. rw is (rw is (filtered-fit base fs))) (λ is. rw is (filtered-fit base fs))

module _ (base : ℕ) (section : FrameSection) (ys : List IndexedFde) (others : ℕ) (has : index_error section ≡ None) (leaves : others ≡ left_out base section) (up : IsNonDecreasingBy (λ y. y.start) ys)
    (moved : IsPermutation (reverse (map (index_entry base) (indexed_fdes base section))) ys) (stable : IsStableByKey (λ y. y.start) nat_cmp (reverse (map (index_entry base) (indexed_fdes base section))) ys) where
  -- what all have in the list that is sorted, all have in the section
  unsorted : (P : IndexedFde → Type 0) → All P ys → All P (map (index_entry base) (indexed_fdes base section))
  unsorted P all =
      let xs : List IndexedFde = map (index_entry base) (indexed_fdes base section) in
      All-permutation P (reverse xs) xs (IsPermutation-sym xs (reverse xs) (IsPermutation-reverse xs))
      (All-permutation P ys (reverse xs) (IsPermutation-sym (reverse xs) ys moved) all)

  fitting : list_all (fits_index base) (indexed_fdes base section) ≡ true
  fitting = filtered-fit base (whole_fdes section)

  found-some : (a : ℕ) (x : IndexedFde) → last_of (filter (λ y. nat_le y.start a) ys) ≡ Some x → Some x.offset ≡ option_map (λ f. f.head.offset) (nearest_fde (base + a) (indexed_fdes base section))
  found-some a x last =
      let p : IndexedFde → Bool = ties (λ u v. is_lt (nat_cmp u.start v.start)) x in
      let xs : List IndexedFde = map (index_entry base) (indexed_fdes base section) in
      let only : (y : IndexedFde) → p y ≡ true → y.start ≡ x.start = λ y. (same_start x.start y.start).0 in
      let all : (y : IndexedFde) → y.start ≡ x.start → p y ≡ true = λ y. (same_start x.start y.start).1 in
      let last_alike : last_of (filter p ys) ≡ Some x = last-alike (λ y. y.start) a p ys x only (all x refl) up last in
      let found : find p xs ≡ Some x = sym (find-back p xs) ∙ ap last_of (sym (stable x)) ∙ last_alike in
      let passes : nat_le x.start a ≡ true = last-passes (λ y. nat_le y.start a) ys x last in
      let low : x.start ≤ a = grind arith in
      let (g, same, start, place) = first-greatest base a (indexed_fdes base section) x p only all low fitting found (unsorted (λ y. nat_le y.start a ≡ true → y.start ≤ x.start) (none-higher (λ y. y.start) a ys x up last)) in
      ap (λ n. Some n) (sym place) ∙ sym (ap (option_map (λ f. f.head.offset)) same)

  found-none : (a : ℕ) → last_of (filter (λ y. nat_le y.start a) ys) ≡ None → nearest_fde (base + a) (indexed_fdes base section) ≡ None
  found-none a last =
      let empty = none-indexed base a (indexed_fdes base section) fitting (unsorted (λ y. nat_le y.start a ≡ false) (none-passes (λ y. nat_le y.start a) ys last)) in
      rw empty refl

  -- the section has an index
  with-index : has_index section ≡ true
  with-index = no-error (list_error section) has
    where
      no-error : (e : Option Error) → option_map Gimli e ≡ None → is_none e ≡ true
      no-error None is = refl
      no-error (Some e) is = cc

  -- the sorted list is an index of the section
  pub indexes-sorted : Indexes ys others base section
  unfolding indexed_entry
  indexes-sorted = record {
    has = with-index;
    finds = λ a. rw with-index (by a (last_of (filter (λ y. nat_le y.start a) ys)) refl);
    count = length_permutation (reverse kept) ys moved ∙ length-reverse kept ∙ length-map (indexed_fdes base section) (index_entry base);
    moved = IsPermutation-trans kept (reverse kept) ys (IsPermutation-reverse kept) moved;
    leaves = leaves;
  }
    where
      kept : List IndexedFde
      kept = map (index_entry base) (indexed_fdes base section)

      by : (a : ℕ) (o : Option IndexedFde) → last_of (filter (λ y. nat_le y.start a) ys) ≡ o → offset_by_index ys a ≡ option_map (λ f. f.head.offset) (nearest_fde (base + a) (indexed_fdes base section))
      by a (Some x) e = ap (option_map (λ y. y.offset)) e ∙ found-some a x e
      by a None e = ap (option_map (λ y. y.offset)) e ∙ sym (ap (option_map (λ f. f.head.offset)) (found-none a e))

-- ---- the pass over the entries

-- the FDEs among items of a section's list that can be read
abbrev pub whole_among : FrameSection → List (Result AnyEntry Error) → List Fde
whole_among section items = filter_map result_ok (filter_map (fde_in section) items)

-- what an index keeps of the FDEs among items of a section's list
abbrev kept_among : (base : ℕ) → FrameSection → List (Result AnyEntry Error) → List IndexedFde
kept_among base section items = map (index_entry base) (filter (fits_index base) (whole_among section items))

-- and how many of these it leaves out
abbrev left_out_among : (base : ℕ) → FrameSection → List (Result AnyEntry Error) → ℕ
left_out_among base section items = count_by (is_left_out base) (filter_map (fde_in section) items)

-- what a pass has gathered, if these of the section's entries are left, which end so: what is kept of the FDEs is what was gathered and
-- what is kept of the rest, and so many are left out before the rest
pub record Gathered (section : FrameSection) (base : ℕ) (kept : List IndexedFde) (others : ℕ) (left : List (Result AnyEntry Error)) (end : ListEnd) : Type 0 where
  pub fdes : map (index_entry base) (indexed_fdes base section) ≡ kept ++ kept_among base section left
  pub leaves : left_out base section ≡ others + left_out_among base section left
  pub ends : list_end section ≡ end
  pub few : others + length left ≤ length (entries_of section)

-- nothing is gathered at the start
pub none-gathered : (section : FrameSection) (base : ℕ) (kept : List IndexedFde) (left : List (Result AnyEntry Error)) (end : ListEnd) → kept ≡ [] → left ≡ entries_of section → end ≡ list_end section
    → Gathered section base kept 0 left end
unfolding whole_fdes
none-gathered section base kept left end none is ends = record {
  fdes = rw (none, is) refl;
  leaves = rw is (omega arith);
  ends = sym ends;
  few = rw is (omega arith);
}

-- a CIE is passed
pub cie-gathered : (section : FrameSection) (base : ℕ) (kept : List IndexedFde) (others : ℕ) (all left : List (Result AnyEntry Error)) (end next : ListEnd) (cie : Cie) → all ≡ Ok (which.Cie cie) ∷ left → end ≡ next
    → Gathered section base kept others all end → Gathered section base kept others left next
cie-gathered section base kept others all left end next cie is on before =
    let counted : length all ≡ suc (length left) = ap length is in
    let few = before.few in
    record {
      fdes = before.fdes ∙ ap (λ entries. kept ++ kept_among base section entries) is;
      leaves = before.leaves ∙ ap (λ entries. others + left_out_among base section entries) is;
      ends = before.ends ∙ on;
      few = omega arith;
    }

-- what is kept of an FDE and those behind it
kept-first : (base : ℕ) (fde : Result Fde Error) (fdes : List Fde) → map (index_entry base) (filter (fits_index base) (cons_option (result_ok fde) fdes)) ≡ cons_option (entry_kept base fde) (map (index_entry base) (filter (fits_index base) fdes))
kept-first base (Ok fde) fdes = by_case (fits_index base fde) (λ is. rw is refl) (λ is. rw is refl)
kept-first base (Err e) fdes = refl

-- an FDE is left out if nothing is kept of it
left-if-none : (base : ℕ) (fde : Result Fde Error) → ◌≡◌ {A = ℕ} (cond (is_left_out base fde) 1 0) (cond (is_none (entry_kept base fde)) 1 0)
left-if-none base (Ok fde) = by_case (fits_index base fde) (λ is. rw is refl) (λ is. rw is refl)
left-if-none base (Err e) = refl

module _ (section : FrameSection) (base : ℕ) (before after : List IndexedFde) (others : ℕ) (all left : List (Result AnyEntry Error)) (end next : ListEnd) (partial : PartialFde) (is : all ≡ Ok (which.Fde partial) ∷ left) (on : end ≡ next)
    (gathered : Gathered section base before others all end) where
  abbrev here : Result Fde Error
  here = fde_of section.limit section.kind partial

  fdes-next : map (index_entry base) (indexed_fdes base section) ≡ before ++ cons_option (entry_kept base here) (kept_among base section left)
  fdes-next = gathered.fdes ∙ ap (λ entries. before ++ kept_among base section entries) is ∙ ap (λ kept. before ++ kept) (kept-first base here (whole_among section left))

  leaves-next : left_out base section ≡ others + (cond (is_none (entry_kept base here)) 1 0 + left_out_among base section left)
  leaves-next =
      gathered.leaves
      ∙ ap (λ entries. others + left_out_among base section entries) is
      ∙ ap (λ n. others + n) (sum_by-cons (λ fde. cond (is_left_out base fde) 1 0) here (filter_map (fde_in section) left) ∙ ap (λ n. n + left_out_among base section left) (left-if-none base here))

  -- the FDE is kept
  pub fde-gathered : (kept : IndexedFde) → entry_kept base here ≡ Some kept → after ≡ before ++ kept ∷ [] → Gathered section base after others left next
  fde-gathered kept held pushed =
      let counted : length all ≡ suc (length left) = ap length is in
      let few = gathered.few in
      record {
        fdes = fdes-next ∙ ap (λ (first : Option IndexedFde). before ++ cons_option first (kept_among base section left)) held ∙ sym (append_assoc before (kept ∷ []) (kept_among base section left)) ∙ ap (λ kept. kept ++ kept_among base section left) (sym pushed);
        leaves = leaves-next ∙ ap (λ (first : Option IndexedFde). others + (cond (is_none first) 1 0 + left_out_among base section left)) held ∙ omega arith;
        ends = gathered.ends ∙ on;
        few = omega arith;
      }

  -- the FDE is left out
  pub fde-left-out : entry_kept base here ≡ None → Gathered section base before (others + 1) left next
  fde-left-out none =
      let counted : length all ≡ suc (length left) = ap length is in
      let few = gathered.few in
      record {
        fdes = fdes-next ∙ ap (λ (first : Option IndexedFde). before ++ cons_option first (kept_among base section left)) none;
        leaves = leaves-next ∙ ap (λ (first : Option IndexedFde). others + (cond (is_none first) 1 0 + left_out_among base section left)) none ∙ omega arith;
        ends = gathered.ends ∙ on;
        few = omega arith;
      }

  -- so many are left out that one more can be counted
  pub one-more : others + 1 ≤ length section.within.bytes.bytes
  one-more = let counted : length all ≡ suc (length left) = ap length is in let few = gathered.few in let within = entries_within_bytes section in omega arith

-- all are gathered
pub all-gathered : (section : FrameSection) (base : ℕ) (kept : List IndexedFde) (others : ℕ) (left : List (Result AnyEntry Error)) (end : ListEnd) → left ≡ [] → (end ≡ SectionEnd) ⊎ (end ≡ Terminator)
    → Gathered section base kept others left end → KeepsAll kept others base section × (index_error section ≡ None)
all-gathered section base kept others left end none ends gathered =
    ((sym (gathered.fdes ∙ ap (λ entries. kept ++ kept_among base section entries) none ∙ append-nil kept), sym (gathered.leaves ∙ ap (λ entries. others + left_out_among base section entries) none ∙ omega arith)), by ends)
  where
    by : (end ≡ SectionEnd) ⊎ (end ≡ Terminator) → index_error section ≡ None
    by (inl is) = ap (λ e. option_map Gimli (end_error e)) (gathered.ends ∙ is)
    by (inr is) = ap (λ e. option_map Gimli (end_error e)) (gathered.ends ∙ is)

-- the list ends at an error
pub list-failed : (section : FrameSection) (base : ℕ) (kept : List IndexedFde) (others : ℕ) (left : List (Result AnyEntry Error)) (end : ListEnd) (e : Error) → end ≡ Failed e → Gathered section base kept others left end
    → index_error section ≡ Some (Gimli e)
list-failed section base kept others left end e is gathered = ap (λ e. option_map Gimli (end_error e)) (gathered.ends ∙ is)

-- if no memory is missing, the error is why there is no index
pub refused : {X : Type 0} (r : Result X DwarfCfiIndexError) (Is : X → ℕ → FrameSection → Type 0) (base : ℕ) (section : FrameSection) (error : DwarfCfiIndexError) → IsErr r → IsErrAnd r (λ e. e ≡ error)
    → (error ≢ OutOfMemory → index_error section ≡ Some error) → IsMadeOf r Is base section
refused (Ok made) Is base section error err same why = absurd cc
refused (Err e) Is base section error err same why = subst (λ (x : DwarfCfiIndexError). x ≢ OutOfMemory → index_error section ≡ Some x) (sym same) why
