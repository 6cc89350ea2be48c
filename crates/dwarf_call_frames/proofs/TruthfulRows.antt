-- What truthful headers name: an FDE that contains the address, the nearest, or the one that starts first.
use Rattle.std.proofs.Common.{◌≡◌, ℕ, zero, suc, ◌+◌, ◌-◌, ◌<◌, ◌≤◌, Bool, true, false, List, [], ◌∷◌, length, get_or, map, Option, Some, None, Result, Ok, Err, refl, sym, ap, subst, ◌∙◌, arith, inl, inr}
use Rattle.std.specs.Prelude.{◌⊎◌, ◌&&◌, nat_lt, nat_le, option_map, unwrap_or}
use Rattle.std.specs.List.{All, Contains, filter, find, list_all}
use Rattle.std.specs.List.Sorted.{IsStrictlyIncreasing}
use Rattle.std.specs.Option.{ok_or}
use Rattle.std.proofs.lemmas.Bool.Decides.{nat_tests}
use Rattle.std.proofs.lemmas.List.Elements.{All-nil, All-cons, All-head, All-tail, All-contains, All-contains_itself}
use Rattle.std.proofs.lemmas.List.Sorted.{All-permutation, Contains-permutation, IsPermutation-sym}
use Rattle.dwarf_constants.specs.declared.error.Error.{Error}
use Rattle.dwarf_constants.specs.declared.error.Error.TheVariants.{NoUnwindInfoForAddress, OffsetOutOfBounds}
use Rattle.dwarf_endianity.specs.Offset.{offset_below}
use Rattle.dwarf_readers.specs.Stretch.{◌>>=◌, requirement}
use Rattle.dwarf_frame_rows.specs.EncodedPointer.{direct_address}
use Rattle.dwarf_frame_rows.specs.declared.base_addresses.BaseAddresses.{BaseAddresses}
use Rattle.dwarf_frame_rows.specs.declared.pointer.Pointer.{Pointer}
use Rattle.dwarf_frame_rows.specs.declared.pointer.Pointer.TheVariants.{Direct}
use Rattle.dwarf_frame_rows.specs.FrameSection.{FrameSection}
use Rattle.dwarf_frame_entries.specs.AddressLookups.{fde_for_address_skipping}
use Rattle.dwarf_frame_entries.specs.Entries.{Fde, contains, end_address}
use Rattle.dwarf_frame_entries.specs.EntryLists.{list_error}
use Rattle.dwarf_frame_entries.specs.SectionFdes.{whole_fdes, nearest_fde}
use Rattle.list_laws.specs.Greatest.{first_greatest, greater_of, is_greatest}
use Rattle.list_laws.specs.Last.{last_of}
use Rattle.list_laws.proofs.Laws.{by_case, by_option, first_greatest-cons, last_of-cons}
use Rattle.dwarf_call_frames.specs.Halving.{halving, row_with_start, target_at_or_below, target_or_first}
use Rattle.dwarf_call_frames.specs.Header.{Header, offset_of_pointer}
use Rattle.dwarf_call_frames.specs.HeaderEntries.{named_offset}
use Rattle.dwarf_call_frames.specs.HeaderTable.{header_row, row_at_index, rows_by_index, header_table}
use Rattle.dwarf_call_frames.specs.Truthful.{IsTruthful, row_of_fde}
use Rattle.dwarf_call_frames.proofs.Increasing.{AllAbove, Increases, finds, increases}
use Rattle.dwarf_call_frames.proofs.RowsBetween.{length-between}

-- ---- lists

both : (a b : Bool) → (a && b) ≡ true → (a ≡ true) × (b ≡ true)
both true b h = (refl, h)
both false b h = cc

module _ {X : Type 0} where
  -- what is found passes, and has what all have
  find-passes : (p : X → Bool) (xs : List X) (g : X) → find p xs ≡ Some g → p g ≡ true
  find-passes p [] g h = cc
  find-passes p (x ∷ xs) g h =
      by_case (p x)
      (λ is. let found : Some x ≡ Some g = rw is at h in let same : x ≡ g = cc in let P : X → Type 0 = λ y. p y ≡ true in subst P same is)
      (λ is. find-passes p xs g (rw is at h))

  find-has : (P : X → Type 0) (p : X → Bool) (xs : List X) (g : X) → All P xs → find p xs ≡ Some g → P g
  find-has P p [] g all h = cc
  find-has P p (x ∷ xs) g all h =
      by_case (p x)
      (λ is. let found : Some x ≡ Some g = rw is at h in let same : x ≡ g = cc in subst P same (All-head P x xs all))
      (λ is. find-has P p xs g (All-tail P x xs all) (rw is at h))

  -- where nothing is found, nothing passes
  find-none : (p : X → Bool) (xs : List X) → find p xs ≡ None → All (λ x. p x ≡ false) xs
  find-none p [] h = All-nil (λ x. p x ≡ false)
  find-none p (x ∷ xs) h =
      by_case (p x)
      (λ is. let found : ◌≡◌ {A = Option X} (Some x) None = rw is at h in cc)
      (λ is. All-cons (λ x. p x ≡ false) x xs is (find-none p xs (rw is at h)))

  -- what passes a filter has what all have, and passes
  filter-all : (P : X → Type 0) (q : X → Bool) (xs : List X) → All P xs → All (λ x. P x × (q x ≡ true)) (filter q xs)
  filter-all P q [] all = All-nil (λ x. P x × (q x ≡ true))
  filter-all P q (x ∷ xs) all =
      by_case (q x)
      (λ is. rw is (All-cons (λ x. P x × (q x ≡ true)) x (filter q xs) (All-head P x xs all, is) (filter-all P q xs (All-tail P x xs all))))
      (λ is. rw is (filter-all P q xs (All-tail P x xs all)))

  -- an element is the first, or among the others
  element-cases : (x : X) (xs : List X) (y : X) → Contains (x ∷ xs) y → (x ≡ y) ⊎ Contains xs y
  element-cases x xs y (zero, h, is) = inl is
  element-cases x xs y (suc k, h, is) = inr (k, omega arith, is)

  -- where none passes, the filter is empty
  filter-none : (q : X → Bool) (xs : List X) → All (λ x. q x ≡ false) xs → filter q xs ≡ []
  filter-none q [] all = refl
  filter-none q (x ∷ xs) all = let here = All-head (λ x. q x ≡ false) x xs all in rw here (filter-none q xs (All-tail (λ x. q x ≡ false) x xs all))

  -- and where it is empty, none passes
  none-passes : (q : X → Bool) (xs : List X) → filter q xs ≡ [] → All (λ x. q x ≡ false) xs
  none-passes q [] h = All-nil (λ x. q x ≡ false)
  none-passes q (x ∷ xs) h =
      by_case (q x)
      (λ is. let more : x ∷ filter q xs ≡ [] = rw is at h in cc)
      (λ is. All-cons (λ x. q x ≡ false) x xs is (none-passes q xs (rw is at h)))

last-map : {X Y : Type 0} (f : X → Y) (xs : List X) → last_of (map f xs) ≡ option_map f (last_of xs)
last-map f [] = refl
last-map f (x ∷ []) = refl
last-map f (x ∷ y ∷ ys) = last-map f (y ∷ ys)

-- ---- FDEs by their starts

abbrev starts_by : ℕ → Fde → Bool
starts_by address fde = nat_le fde.initial_address address

-- no FDE at or below the address starts above this one
abbrev NoneNearer : ℕ → Fde → List Fde → Type 0
NoneNearer address fde fdes = All (λ (other : Fde). starts_by address other ≡ true → other.initial_address ≤ fde.initial_address) fdes

module _ (section_start : ℕ) where
  starts-same : (fdes : List Fde) → map (λ row. row.0) (map (row_of_fde section_start) fdes) ≡ map (λ fde. fde.initial_address) fdes
  starts-same [] = refl
  starts-same (fde ∷ fdes) = ap (λ starts. fde.initial_address ∷ starts) (starts-same fdes)

  filter-rows : (address : ℕ) (fdes : List Fde) → filter (λ row. nat_le row.0 address) (map (row_of_fde section_start) fdes) ≡ map (row_of_fde section_start) (filter (starts_by address) fdes)
  filter-rows address [] = refl
  filter-rows address (fde ∷ fdes) =
      by_case (nat_le fde.initial_address address)
      (λ is. rw is (ap (λ rows. row_of_fde section_start fde ∷ rows) (filter-rows address fdes)))
      (λ is. rw is (filter-rows address fdes))

  -- the last row at or below the address is that of the last such FDE
  last-row : (address : ℕ) (fdes : List Fde) → last_of (filter (λ row. nat_le row.0 address) (map (row_of_fde section_start) fdes)) ≡ option_map (row_of_fde section_start) (last_of (filter (starts_by address) fdes))
  last-row address fdes = ap last_of (filter-rows address fdes) ∙ last-map (row_of_fde section_start) (filter (starts_by address) fdes)

  -- behind a start at or above which none is nearer, none is at or below the address
  none-behind : (address : ℕ) (fde : Fde) (fdes : List Fde) → AllAbove fde.initial_address (map (row_of_fde section_start) fdes) → NoneNearer address fde fdes → All (λ other. starts_by address other ≡ false) fdes
  none-behind address fde [] above near = All-nil (λ other. starts_by address other ≡ false)
  none-behind address fde (other ∷ fdes) above near =
      let low = All-head (λ (other : Fde). starts_by address other ≡ true → other.initial_address ≤ fde.initial_address) other fdes near in
      let here : starts_by address other ≡ false = by_case (starts_by address other) (λ is. let le = low is in absurd (omega (arith, above.0))) (λ is. is) in
      All-cons (λ other. starts_by address other ≡ false) other fdes here
      (none-behind address fde fdes above.1 (All-tail (λ (other : Fde). starts_by address other ≡ true → other.initial_address ≤ fde.initial_address) other fdes near))

  -- among increasing starts the FDE at or below the address that none is nearer than is the last such
  nearest-last : (address : ℕ) (fde : Fde) (fdes : List Fde) → Increases (map (row_of_fde section_start) fdes) → Contains fdes fde → starts_by address fde ≡ true → NoneNearer address fde fdes
      → last_of (filter (starts_by address) fdes) ≡ Some fde
  nearest-last address fde [] up (k, h, is) low near = absurd (omega arith)
  nearest-last address fde (first ∷ fdes) up there low near =
      let others : NoneNearer address fde fdes = All-tail (λ (other : Fde). starts_by address other ≡ true → other.initial_address ≤ fde.initial_address) first fdes near in
      elim (element-cases first fdes fde there) [
        | inl same ↦
            let above : AllAbove fde.initial_address (map (row_of_fde section_start) fdes) = subst (λ (f : Fde). AllAbove f.initial_address (map (row_of_fde section_start) fdes)) same up.0 in
            let none = filter-none (starts_by address) fdes (none-behind address fde fdes above others) in
            let here : starts_by address first ≡ true = rw same low in
            rw (here, none) (ap (λ f. Some f) same)
        | inr more ↦
            let last = nearest-last address fde fdes up.1 more low others in
            by_case (starts_by address first)
            (λ is. rw is (last_of-cons first fde (filter (starts_by address) fdes) last))
            (λ is. rw is last)
      ]

-- ---- the nearest FDE

-- all of a filter at or below one: all that pass are
all-low : (address n : ℕ) (fdes : List Fde) → list_all (λ other. nat_le other.initial_address n) (filter (starts_by address) fdes) ≡ true → All (λ (other : Fde). starts_by address other ≡ true → other.initial_address ≤ n) fdes
all-low address n [] h = All-nil (λ (other : Fde). starts_by address other ≡ true → other.initial_address ≤ n)
all-low address n (fde ∷ fdes) h =
    by_case (starts_by address fde)
    (λ is.
    let (here, others) = both (nat_le fde.initial_address n) (list_all (λ other. nat_le other.initial_address n) (filter (starts_by address) fdes)) (rw is at h) in
    All-cons (λ (other : Fde). starts_by address other ≡ true → other.initial_address ≤ n) fde fdes (λ _. grind (arith, nat_tests)) (all-low address n fdes others))
    (λ is. All-cons (λ (other : Fde). starts_by address other ≡ true → other.initial_address ≤ n) fde fdes (λ passes. absurd cc) (all-low address n fdes (rw is at h)))

-- the nearest is one of the FDEs, starts at or below the address, and none is nearer
record IsNearest (address : ℕ) (fdes : List Fde) (fde : Fde) : Type 0 where
  there : Contains fdes fde
  low : starts_by address fde ≡ true
  near : NoneNearer address fde fdes

nearest-is : (address : ℕ) (fdes : List Fde) (fde : Fde) → nearest_fde address fdes ≡ Some fde → IsNearest address fdes fde
nearest-is address fdes fde h =
    let within : List Fde = filter (starts_by address) fdes in
    let test : Fde → Bool = is_greatest (λ fde. fde.initial_address) within in
    let is = find-has (λ (f : Fde). Contains fdes f × (starts_by address f ≡ true)) test within fde (filter-all (Contains fdes) (starts_by address) fdes (All-contains_itself fdes)) h in
    record { there = is.0; low = is.1; near = all-low address fde.initial_address fdes (find-passes test within fde h) }

pub nearest_there : (address : ℕ) (fdes : List Fde) (fde : Fde) → nearest_fde address fdes ≡ Some fde → Contains fdes fde
nearest_there address fdes fde h = (nearest-is address fdes fde h).there

-- there is one, where an FDE starts at or below the address
some-greatest : (fde : Fde) (fdes : List Fde) → first_greatest (λ (f : Fde). f.initial_address) (fde ∷ fdes) ≡ None → ⊥
some-greatest fde fdes none = never (first_greatest (λ (f : Fde). f.initial_address) fdes) (sym (first_greatest-cons (λ (f : Fde). f.initial_address) fde fdes) ∙ none)
  where
    never : (other : Option Fde) → greater_of (λ (f : Fde). f.initial_address) (Some fde) other ≡ None → ⊥
    never (Some second) is = cc
    never None is = cc

none-nearest : (address : ℕ) (fdes : List Fde) → nearest_fde address fdes ≡ None → All (λ fde. starts_by address fde ≡ false) fdes
none-nearest address fdes none = none-passes (starts_by address) fdes (empty (filter (starts_by address) fdes) none)
  where
    empty : (within : List Fde) → first_greatest (λ (f : Fde). f.initial_address) within ≡ None → within ≡ []
    empty [] is = refl
    empty (fde ∷ others) is = absurd (some-greatest fde others is)

-- ---- what a scan finds

-- none of the FDEs contains the address
scanned-none : (section : FrameSection) (address : ℕ) → list_error section ≡ None → All (λ fde. contains address fde ≡ false) (whole_fdes section) → fde_for_address_skipping section address ≡ Err NoUnwindInfoForAddress
scanned-none section address ends none = found-by None (find-fails (whole_fdes section) none)
  where
    find-fails : (fdes : List Fde) → All (λ fde. contains address fde ≡ false) fdes → find (contains address) fdes ≡ None
    find-fails [] fails = refl
    find-fails (fde ∷ fdes) fails =
        let here = All-head (λ fde. contains address fde ≡ false) fde fdes fails in
        rw here (find-fails fdes (All-tail (λ fde. contains address fde ≡ false) fde fdes fails))

    found-by : (o : Option Fde) → find (contains address) (whole_fdes section) ≡ o → fde_for_address_skipping section address ≡ ok_or o NoUnwindInfoForAddress
    found-by o is = ap (λ found. ok_or found (unwrap_or (list_error section) NoUnwindInfoForAddress)) is ∙ ap (λ e. ok_or o (unwrap_or e NoUnwindInfoForAddress)) ends

-- this one is the first that does
scanned : (section : FrameSection) (address : ℕ) (fde : Fde) → find (contains address) (whole_fdes section) ≡ Some fde → fde_for_address_skipping section address ≡ Ok fde
scanned section address fde is = ap (λ found. ok_or found (unwrap_or (list_error section) NoUnwindInfoForAddress)) is

-- ---- what a truthful header names

module _ (section : FrameSection) (bases : BaseAddresses) (header : Header) (t : IsTruthful section bases header) where
  abbrev pub all : List Fde
  all = whole_fdes section

  -- an FDE that contains an address is the nearest
  contained-nearest : (address : ℕ) (fde : Fde) → Contains all fde → contains address fde ≡ true → IsNearest address all fde
  contained-nearest address fde there inside =
      let (from, to) = both (nat_le fde.initial_address address) (nat_lt address (end_address fde)) inside in
      record { there = there; low = from; near = λ k d h passes. near-at (get_or all k d) passes (alone (get_or all k d) (get-there k d h)) }
    where
      get-there : (k : ℕ) (d : Fde) → k < length all → Contains all (get_or all k d)
      get-there k d h = All-contains_itself all k d h

      alone : (other : Fde) → Contains all other → contains other.initial_address fde ≡ true → other ≡ fde
      alone other is = All-contains (λ other. contains other.initial_address fde ≡ true → other ≡ fde) all other (All-contains (λ fde. All (λ other. contains other.initial_address fde ≡ true → other ≡ fde) all) all fde t.sound.apart there) is

      near-at : (other : Fde) → starts_by address other ≡ true → (contains other.initial_address fde ≡ true → other ≡ fde) → other.initial_address ≤ fde.initial_address
      near-at other passes one =
          by_case (nat_le other.initial_address fde.initial_address)
          (λ is. grind (arith, nat_tests))
          (λ is.
          let (from, to) = both (nat_le fde.initial_address address) (nat_lt address (end_address fde)) inside in
          let first : nat_le fde.initial_address other.initial_address ≡ true = grind (arith, nat_tests) in
          let second : nat_lt other.initial_address (end_address fde) ≡ true = grind (arith, nat_tests) in
          let same = one (rw (first, second) refl) in
          let start : other.initial_address ≡ fde.initial_address = ap (λ f. f.initial_address) same in
          omega arith)

  -- the nearest is the last at or below the address in the table
  nearest-in-table : (address : ℕ) (fde : Fde) → IsNearest address all fde → last_of (filter (starts_by address) t.fdes) ≡ Some fde
  nearest-in-table address fde is =
      nearest-last t.section_start address fde t.fdes
      (increases (map (row_of_fde t.section_start) t.fdes) (subst IsStrictlyIncreasing (sym (starts-same t.section_start t.fdes)) t.increase))
      (Contains-permutation all t.fdes fde t.are_all is.there) is.low
      (All-permutation (λ (other : Fde). starts_by address other ≡ true → other.initial_address ≤ fde.initial_address) all t.fdes t.are_all is.near)

  -- the row that halving finds
  row-found : (address : ℕ) → header_row section.limit address (header_table bases.eh_frame_hdr header) ≡ target_at_or_below address (map (row_of_fde t.section_start) t.fdes)
  row-found address =
      ap (λ (r : Result ℕ Error). r >>= λ size. (halving address (rows_by_index section.limit size (header_table bases.eh_frame_hdr header))).reached) t.has_size
      ∙ ap (λ rows. (halving address rows).reached) t.rows
      ∙ finds address (map (row_of_fde t.section_start) t.fdes) (subst IsStrictlyIncreasing (sym (starts-same t.section_start t.fdes)) t.increase)

  -- the offset by the pointer in its row
  named-at : (address : ℕ) (fde : Fde) → Contains all fde → header_row section.limit address (header_table bases.eh_frame_hdr header) ≡ Ok (Direct (t.section_start + fde.head.offset)) → named_offset section.limit bases header address ≡ Ok fde.head.offset
  named-at address fde there row = ap (λ (r : Result Pointer Error). r >>= λ p. offset_of_pointer section.limit header p) row ∙ place
    where
      has-offset : nat_lt fde.head.offset section.limit ≡ true
      has-offset = All-contains (λ (f : Fde). nat_lt f.head.offset section.limit ≡ true) all fde t.sound.have_offsets there

      below : (start offset : ℕ) → nat_lt offset section.limit ≡ true → (requirement (nat_le start (start + offset)) OffsetOutOfBounds >>= λ _. offset_below section.limit ((start + offset) - start)) ≡ Ok offset
      below start offset fits =
          let le : nat_le start (start + offset) ≡ true = grind (arith, nat_tests) in
          let less : (start + offset) - start ≡ offset = omega arith in
          rw (le, less, fits) refl

      place : offset_of_pointer section.limit header (Direct (t.section_start + fde.head.offset)) ≡ Ok fde.head.offset
      place =
          ap (λ (p : Pointer). direct_address p >>= λ start. requirement (nat_le start (t.section_start + fde.head.offset)) OffsetOutOfBounds >>= λ _. offset_below section.limit ((t.section_start + fde.head.offset) - start)) t.starts_there
          ∙ below t.section_start fde.head.offset has-offset

  named-last : (address : ℕ) (fde : Fde) → IsNearest address all fde → named_offset section.limit bases header address ≡ Ok fde.head.offset
  named-last address fde is =
      let rows = map (row_of_fde t.section_start) t.fdes in
      let last = last-row t.section_start address t.fdes ∙ ap (option_map (row_of_fde t.section_start)) (nearest-in-table address fde is) in
      named-at address fde is.there (row-found address ∙ ap (λ row. target_or_first row rows) last)

  pub named_nearest : (address : ℕ) (fde : Fde) → nearest_fde address all ≡ Some fde → named_offset section.limit bases header address ≡ Ok fde.head.offset
  named_nearest address fde h = named-last address fde (nearest-is address all fde h)

  pub named_contained : (address : ℕ) (fde : Fde) → Contains all fde → contains address fde ≡ true → named_offset section.limit bases header address ≡ Ok fde.head.offset
  named_contained address fde there inside = named-last address fde (contained-nearest address fde there inside)

  -- two nearest are one
  one-nearest : (address : ℕ) (first second : Fde) → IsNearest address all first → IsNearest address all second → first ≡ second
  one-nearest address first second a b =
      let both_last : Some first ≡ Some second = sym (nearest-in-table address first a) ∙ nearest-in-table address second b in cc

  pub nearest_contained : (address : ℕ) (fde : Fde) → Contains all fde → contains address fde ≡ true → nearest_fde address all ≡ Some fde
  nearest_contained address fde there inside =
      let near = contained-nearest address fde there inside in
      by_option (nearest_fde address all)
      (λ found is. is ∙ ap (λ f. Some f) (one-nearest address found fde (nearest-is address all found is) near))
      (λ none. let fails : starts_by address fde ≡ false = All-contains (λ f. starts_by address f ≡ false) all fde (none-nearest address all none) there in let low = near.low in cc)

  -- none contains an address that a nearest one doesn't contain, or at or below which none starts
  pub scanned_outside : (address : ℕ) (fde : Fde) → nearest_fde address all ≡ Some fde → contains address fde ≡ false → fde_for_address_skipping section address ≡ Err NoUnwindInfoForAddress
  scanned_outside address fde near outside =
      scanned-none section address t.sound.ends (λ k d h. by_case (contains address (get_or all k d))
      (λ inside.
      let other = get_or all k d in
      let same : other ≡ fde = one-nearest address other fde (contained-nearest address other (All-contains_itself all k d h) inside) (nearest-is address all fde near) in
      let inside-too : contains address fde ≡ true = subst (λ (f : Fde). contains address f ≡ true) same inside in cc)
      (λ fails. fails))

  pub scanned_below : (address : ℕ) → nearest_fde address all ≡ None → fde_for_address_skipping section address ≡ Err NoUnwindInfoForAddress
  scanned_below address none =
      scanned-none section address t.sound.ends (λ k d h. let fails : starts_by address (get_or all k d) ≡ false = none-nearest address all none k d h in rw fails refl)

  pub scanned_contained : (address : ℕ) (fde : Fde) → Contains all fde → contains address fde ≡ true → fde_for_address_skipping section address ≡ Ok fde
  scanned_contained address fde there inside = scanned section address fde found
    where
      found : find (contains address) all ≡ Some fde
      found =
          by_option (find (contains address) all)
          (λ other is.
          let there-too = find-has (Contains all) (contains address) all other (All-contains_itself all) is in
          is ∙ ap (λ f. Some f) (one-nearest address other fde (contained-nearest address other there-too (find-passes (contains address) all other is)) (contained-nearest address fde there inside)))
          (λ none. let fails : contains address fde ≡ false = All-contains (λ f. contains address f ≡ false) all fde (find-none (contains address) all none) there in cc)

  -- a table has a row for each FDE
  pub has_rows : (fde : Fde) → Contains all fde → 0 < header.count
  has_rows fde there =
      let table = header_table bases.eh_frame_hdr header in
      let len = ap length t.rows ∙ length-rows t.fdes in
      let count = length-between (row_at_index section.limit t.size table) 0 table.count in
      some (Contains-permutation all t.fdes fde t.are_all there) (sym count ∙ len)
    where
      length-rows : (fdes : List Fde) → length (map row_with_start (map (row_of_fde t.section_start) fdes)) ≡ length fdes
      length-rows [] = refl
      length-rows (fde ∷ fdes) = ap suc (length-rows fdes)

      some : Contains t.fdes fde → header.count ≡ length t.fdes → 0 < header.count
      some (k, h, is) same = omega arith

  -- below all starts
  pub named_below : 0 < header.count → (address : ℕ) → nearest_fde address all ≡ None
      → (fde : Fde) × (Contains all fde × ((address < fde.initial_address) × (named_offset section.limit bases header address ≡ Ok fde.head.offset)))
  named_below some address none = first t.fdes refl
    where
      first : (fdes : List Fde) → t.fdes ≡ fdes → (fde : Fde) × (Contains all fde × ((address < fde.initial_address) × (named_offset section.limit bases header address ≡ Ok fde.head.offset)))
      first [] is =
          let table = header_table bases.eh_frame_hdr header in
          let len : length (rows_by_index section.limit t.size table) ≡ 0 = ap length (t.rows ∙ ap (λ (fdes : List Fde). map row_with_start (map (row_of_fde t.section_start) fdes)) is) in
          let count = length-between (row_at_index section.limit t.size table) 0 table.count in
          absurd (omega arith)
      first (fde ∷ fdes) is =
          let rows = map (row_of_fde t.section_start) t.fdes in
          let low : All (λ f. starts_by address f ≡ false) t.fdes = All-permutation (λ f. starts_by address f ≡ false) all t.fdes t.are_all (none-nearest address all none) in
          let in-table : Contains t.fdes fde = subst (λ (fdes : List Fde). Contains fdes fde) (sym is) (0, omega arith, refl) in
          let there : Contains all fde = Contains-permutation t.fdes all fde (IsPermutation-sym all t.fdes t.are_all) in-table in
          let fails : starts_by address fde ≡ false = All-contains (λ f. starts_by address f ≡ false) t.fdes fde low in-table in
          let last = last-row t.section_start address t.fdes ∙ ap (λ (within : List Fde). option_map (row_of_fde t.section_start) (last_of within)) (filter-none (starts_by address) t.fdes low) in
          let row = row-found address ∙ ap (λ row. target_or_first row rows) last ∙ ap (λ (fdes : List Fde). target_or_first None (map (row_of_fde t.section_start) fdes)) is in
          (fde, (there, (grind (arith, nat_tests), named-at address fde there row)))
