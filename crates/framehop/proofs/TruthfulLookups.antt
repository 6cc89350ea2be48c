-- If a header is truthful, all lookups lead to the same FDEs.
use Rattle.std.proofs.Common.{◌≡◌, ◌<◌, ◌^◌, ℕ, ◌+◌, Bool, true, false, cond, List, [], ◌∷◌, Option, Some, None, Result, Ok, Err, refl, sym, ap, ◌∙◌, arith, subst}
use Rattle.std.specs.Prelude.{is_none, nat_le, nat_lt, option_map, ◌==◌, if◌then◌else◌}
use Rattle.std.specs.List.{All, AllPass, Contains, filter, find}
use Rattle.std.proofs.lemmas.Bool.Decides.{nat_tests}
use Rattle.std.proofs.lemmas.List.Elements.{All-head, All-tail, All-contains, All-contains_itself, All-filter}
use Rattle.dwarf_constants.specs.declared.error.Error.{Error}
use Rattle.dwarf_constants.specs.declared.error.Error.TheVariants.{NoUnwindInfoForAddress}
use Rattle.dwarf_frame_rows.specs.declared.base_addresses.BaseAddresses.{BaseAddresses}
use Rattle.dwarf_frame_rows.specs.declared.base_addresses.SectionBaseAddresses.{SectionBaseAddresses}
use Rattle.dwarf_frame_rows.specs.FrameSection.{FrameSection}
use Rattle.dwarf_frame_rows.specs.Row.{Row}
use Rattle.dwarf_frame_sections.specs.Sections.{eh_frame}
use Rattle.dwarf_readers.specs.Stretch.{whole}
use Rattle.dwarf_frame_entries.specs.Entries.{Fde, contains}
use Rattle.dwarf_frame_entries.specs.EntryPrograms.{fde_row}
use Rattle.dwarf_frame_entries.specs.SectionFdes.{StandsAtItsOffset, whole_fdes, nearest_fde}
use Rattle.dwarf_frame_entries.proofs.Laws.{fdes_there}
use Rattle.dwarf_call_frames.specs.HeaderEntries.{named_offset}
use Rattle.dwarf_call_frames.proofs.Laws as header_laws
use Rattle.dwarf_frame_entries.specs.AddressLookups.{fde_for_address_skipping}
use Rattle.dwarf_frame_entries.specs.Entries.{fde_from_offset}
use Rattle.framehop_rows.specs.RowMeanings.{RowMeanings}
use Rattle.framehop_unwinder.specs.Attempt.{Attempt, Says, SaysNothing}
use Rattle.framehop.specs.Attempts.{attempt, attempt_by_method}
use Rattle.framehop_loads.specs.StepLimits.{StepLimits}
use Rattle.framehop.specs.Coverage.{Coverage, NoAddress, Uncovered, attempt_by, by_entry, by_fde, by_fde_row, covered_by_fde}
use Rattle.framehop_index.specs.EntryFor.{fits_index, has_index, indexed_entry, indexed_fdes}
use Rattle.framehop_index.specs.FrameSections.{eh_frame_of}
use Rattle.framehop_index.specs.Lookups.{found_by_index}
use Rattle.framehop_errors.specs.declared.dwarf.DwarfUnwinderError.TheVariants.{LookupAddressOverflow}
use Rattle.framehop_errors.specs.declared.unwinder.UnwinderError.TheVariants.{Dwarf, DwarfCfiIndexCouldNotFindAddress, EhFrameHdrCouldNotFindAddress}
use Rattle.framehop_index.specs.FdeLookups.{FoundFde, fde_by_scan, fde_found, fde_read}
use Rattle.framehop.specs.Methods.{method_found}
use Rattle.framehop.specs.LookupsAlike.{AllLeadTo, LeadsAbove}
use Rattle.framehop.specs.TruthfulLookups.{AreTruthful, HeadedSection, headed_section, headed_data, indexed_data, offset_headed, scanned_data}
use Rattle.framehop.proofs.RowStarts.{no-row-below}
use Rattle.list_laws.specs.Greatest.{is_greatest}
use Rattle.list_laws.proofs.Laws.{by_case}

-- a number above 0 isn't 0
not-zero : (n : ℕ) → 0 < n → (n == 0) ≡ false
not-zero n above = grind (arith, nat_tests)

-- an address of 64 bits
pub fits-64 : {n : ℕ} → n < 2 ^ 64 → nat_lt n (2 ^ 64) ≡ true
fits-64 {n} below = grind (arith, nat_tests)

-- the offset of what an index can hold has 32 bits
offset-fits : (base : ℕ) (f : Fde) → fits_index base f ≡ true → nat_lt f.head.offset (2 ^ 32) ≡ true
offset-fits base f h = grind (arith, nat_tests)

-- what passes whole is left by a filter as it is
filter-all : {X : Type 0} (p : X → Bool) (xs : List X) → AllPass p xs → filter p xs ≡ xs
filter-all p [] all = refl
filter-all p (x ∷ xs) all =
    let here : p x ≡ true = All-head (λ x. p x ≡ true) x xs all in
    rw here (ap (λ others. x ∷ others) (filter-all p xs (All-tail (λ x. p x ≡ true) x xs all)))

-- what is found has what all have
find-has : {X : Type 0} (P : X → Type 0) (p : X → Bool) (xs : List X) (x : X) → All P xs → find p xs ≡ Some x → P x
find-has P p [] x all h = cc
find-has P p (y ∷ ys) x all h =
    by_case (p y)
    (λ is. let same : Some y ≡ Some x = rw is at h in let it : y ≡ x = cc in subst P it (All-head P y ys all))
    (λ is. find-has P p ys x (All-tail P y ys all) (rw is at h))

-- what all FDEs have, the nearest has
nearest-has : (P : Fde → Type 0) (address : ℕ) (fdes : List Fde) (g : Fde) → All P fdes → nearest_fde address fdes ≡ Some g → P g
nearest-has P address fdes g all found =
    let within : List Fde = filter (λ fde. nat_le fde.initial_address address) fdes in
    find-has P (is_greatest (λ fde. fde.initial_address) within) within g (All-filter (λ fde. nat_le fde.initial_address address) P fdes all) found

-- sections of the same bytes, whose pointers are relative to the same addresses, are the same
same-section : (bases other : BaseAddresses) (section : List ℕ) → other.eh_frame ≡ bases.eh_frame → eh_frame_of other section ≡ eh_frame_of bases section
same-section bases other section same =
    ap (λ (e : SectionBaseAddresses). record { limit = 2 ^ 64; kind = eh_frame; within = record { address_size = 8; bytes = whole false section; bases = e } }) same

module _ (h : HeadedSection) (t : AreTruthful h) where
  abbrev bases : BaseAddresses
  bases = h.bases

  abbrev base : ℕ
  base = h.base

  abbrev header : List ℕ
  header = h.header

  abbrev s : FrameSection
  s = headed_section h

  -- the section has an index, which has each FDE
  has : has_index s ≡ true
  has = ap is_none t.is_truthful.sound.ends

  all-held : indexed_fdes base s ≡ whole_fdes s
  all-held = filter-all (fits_index base) (whole_fdes s) t.indexed

  -- an FDE of the section is at its offset, which has 32 bits
  there : (fde : Fde) → Contains (whole_fdes s) fde → fde_from_offset s fde.head.offset ≡ Ok fde
  there fde inside = All-contains (StandsAtItsOffset s) (whole_fdes s) fde (fdes_there s) inside

  small : (fde : Fde) → Contains (whole_fdes s) fde → nat_lt fde.head.offset (2 ^ 32) ≡ true
  small fde inside = offset-fits base fde (All-contains (λ f. fits_index base f ≡ true) (whole_fdes s) fde t.indexed inside)

  module _ (relative : ℕ) where
    -- the offset that the header names is what it leads to
    named : (fde : Fde) → Contains (whole_fdes s) fde → nat_lt (base + relative) (2 ^ 64) ≡ true → 0 < t.says.count
        → named_offset (2 ^ 64) bases t.says (base + relative) ≡ Ok fde.head.offset → offset_headed h relative ≡ Some fde.head.offset
    named fde inside fits rows is =
        let near = small fde inside in
        let some = not-zero t.says.count rows in
        rw (t.parses, fits, some, is, near) refl

    -- where an FDE contains the address
    module _ (fde : Fde) (inside : Contains (whole_fdes s) fde) (holds : contains (base + relative) fde ≡ true) where
      nearest-contained : nearest_fde (base + relative) (whole_fdes s) ≡ Some fde
      nearest-contained = header_laws.nearest_contained s bases t.says t.is_truthful (base + relative) fde inside holds

      pub scan-contained : fde_for_address_skipping s (base + relative) ≡ Ok fde
      scan-contained = header_laws.scanned_contained s bases t.says t.is_truthful (base + relative) fde inside holds

    -- from the lowest start on
    module _ (fde : Fde) (nearest : nearest_fde (base + relative) (whole_fdes s) ≡ Some fde) where
      pub listed : Contains (whole_fdes s) fde
      listed = nearest-has (Contains (whole_fdes s)) (base + relative) (whole_fdes s) fde (All-contains_itself (whole_fdes s)) nearest

      pub header-nearest : nat_lt (base + relative) (2 ^ 64) ≡ true → offset_headed h relative ≡ Some fde.head.offset
      header-nearest fits =
          named fde listed fits (header_laws.has_rows s bases t.says t.is_truthful fde listed) (header_laws.named_nearest s bases t.says t.is_truthful (base + relative) fde nearest)

      pub index-nearest : found_by_index s base relative ≡ Some fde.head.offset
      unfolding indexed_entry
      index-nearest = rw (has, all-held) (ap (option_map (λ (f : Fde). f.head.offset)) nearest)

    -- each lookup leads to the FDE that contains the address
    pub lead-to-one : (fde : Fde) → nat_lt (base + relative) (2 ^ 64) ≡ true → Contains (whole_fdes s) fde → contains (base + relative) fde ≡ true → AllLeadTo h relative fde
    lead-to-one fde fits inside holds =
        let nearest = nearest-contained fde inside holds in
        record {
          by_header = header-nearest fde nearest fits;
          by_index = index-nearest fde nearest;
          at_offset = there fde inside;
          by_scan = scan-contained fde inside holds;
        }

    -- below the lowest start
    module _ (fits : nat_lt (base + relative) (2 ^ 64) ≡ true) (none : nearest_fde (base + relative) (whole_fdes s) ≡ None) where
      pub header-above : 0 < t.says.count → LeadsAbove h relative
      header-above rows =
          let found = header_laws.named_below s bases t.says t.is_truthful rows (base + relative) none in
          let fde : Fde = found.0 in
          let inside : Contains (whole_fdes s) fde = found.1.0 in
          record { fde = fde; above = found.1.1.0; leads = named fde inside fits rows found.1.1.1; at_offset = there fde inside }

      pub index-none : found_by_index s base relative ≡ None
      unfolding indexed_entry
      index-none = rw (has, all-held) (ap (option_map (λ (f : Fde). f.head.offset)) none)

      pub scan-none : fde_for_address_skipping s (base + relative) ≡ Err NoUnwindInfoForAddress
      scan-none = header_laws.scanned_below s bases t.says t.is_truthful (base + relative) none

    -- the attempts
    module _ {Rule Registers : Type 0} (m : RowMeanings Rule Registers) (limits : StepLimits) (other : BaseAddresses) (same : other.eh_frame ≡ bases.eh_frame) (first : Bool) where
      -- what is known of the FDE, if the address has 64 bits
      abbrev in_range : FoundFde → FoundFde
      in_range found = if nat_lt (base + relative) (2 ^ 64) then found else Err (Dwarf LookupAddressOverflow)

      -- the attempt by it
      abbrev said : FoundFde → Attempt Rule Registers
      said found = attempt_by_method m limits first (method_found s (base + relative) (in_range found))

      -- by the header
      headed-says : attempt m limits (headed_data h) relative first ≡ said (fde_found s EhFrameHdrCouldNotFindAddress (offset_headed h relative))
      headed-says = refl

      -- by an index
      index-says : attempt m limits (indexed_data other h) relative first ≡ said (fde_found s DwarfCfiIndexCouldNotFindAddress (found_by_index s base relative))
      index-says =
          ap (λ (sec : FrameSection). attempt_by_method m limits first (method_found sec (base + relative) (in_range (fde_found sec DwarfCfiIndexCouldNotFindAddress (found_by_index sec base relative)))))
          (same-section bases other h.section same)

      -- and by a scan
      scan-says : attempt m limits (scanned_data other h) relative first ≡ said (fde_by_scan (fde_for_address_skipping s (base + relative)))
      scan-says =
          ap (λ (sec : FrameSection). attempt_by_method m limits first (method_found sec (base + relative) (in_range (fde_by_scan (fde_for_address_skipping sec (base + relative))))))
          (same-section bases other h.section same)

      -- out of range all is the same
      over : (one two : FoundFde) → nat_lt (base + relative) (2 ^ 64) ≡ false → said one ≡ said two
      over one two not = rw not refl

      -- by the header the attempt is that by the nearest FDE
      headed : (fde : Fde) → nearest_fde (base + relative) (whole_fdes s) ≡ Some fde → attempt m limits (headed_data h) relative first ≡ said (Ok (Some fde))
      headed fde nearest =
          by_case (nat_lt (base + relative) (2 ^ 64))
          (λ fits. headed-says ∙ ap (λ (o : Option ℕ). said (fde_found s EhFrameHdrCouldNotFindAddress o)) (header-nearest fde nearest fits) ∙ ap (λ (r : Result Fde Error). said (fde_read r)) (there fde (listed fde nearest)))
          (λ not. headed-says ∙ over (fde_found s EhFrameHdrCouldNotFindAddress (offset_headed h relative)) (Ok (Some fde)) not)

      -- and so it is by the index
      indexed : (fde : Fde) → nearest_fde (base + relative) (whole_fdes s) ≡ Some fde → attempt m limits (indexed_data other h) relative first ≡ said (Ok (Some fde))
      indexed fde nearest =
          index-says ∙ ap (λ (o : Option ℕ). said (fde_found s DwarfCfiIndexCouldNotFindAddress o)) (index-nearest fde nearest)
          ∙ ap (λ (r : Result Fde Error). said (fde_read r)) (there fde (listed fde nearest))

      -- and by the scan, where the FDE contains the address
      near-read : (fde : Fde) → nat_lt fde.head.offset (2 ^ 32) ≡ true → said (fde_by_scan (Ok fde)) ≡ said (Ok (Some fde))
      near-read fde near = rw near refl

      scanned : (fde : Fde) → Contains (whole_fdes s) fde → contains (base + relative) fde ≡ true → attempt m limits (scanned_data other h) relative first ≡ said (Ok (Some fde))
      scanned fde inside holds =
          scan-says ∙ ap (λ (r : Result Fde Error). said (fde_by_scan r)) (scan-contained fde inside holds) ∙ near-read fde (small fde inside)

      pub index-alike : (fde : Fde) → nearest_fde (base + relative) (whole_fdes s) ≡ Some fde → attempt m limits (indexed_data other h) relative first ≡ attempt m limits (headed_data h) relative first
      index-alike fde nearest = indexed fde nearest ∙ sym (headed fde nearest)

      pub index-alike-contained : (fde : Fde) → Contains (whole_fdes s) fde → contains (base + relative) fde ≡ true → attempt m limits (indexed_data other h) relative first ≡ attempt m limits (headed_data h) relative first
      index-alike-contained fde inside holds = index-alike fde (nearest-contained fde inside holds)

      pub scan-alike : (fde : Fde) → Contains (whole_fdes s) fde → contains (base + relative) fde ≡ true → attempt m limits (scanned_data other h) relative first ≡ attempt m limits (headed_data h) relative first
      scan-alike fde inside holds = scanned fde inside holds ∙ sym (headed fde (nearest-contained fde inside holds))

      -- without a row nothing is covered
      no-row : (fde : Fde) → ((row : Row ℕ) → fde_row limits.rows s m.vendor fde (base + relative) ≡ Ok row → ⊥) → by_fde limits.rows m.vendor s (base + relative) fde ≡ Uncovered
      no-row fde none = by (fde_row limits.rows s m.vendor fde (base + relative)) refl
        where
          by : (r : Result (Row ℕ) Error) → fde_row limits.rows s m.vendor fde (base + relative) ≡ r → by_fde_row fde.cie.address_size s.within.bytes r ≡ Uncovered
          by (Ok row) is = absurd (none row is)
          by (Err e) is = refl

      -- and the attempt is that without an FDE
      said-uncovered : (fde : Fde) → by_fde limits.rows m.vendor s (base + relative) fde ≡ Uncovered → said (Ok None) ≡ said (Ok (Some fde))
      said-uncovered fde uncovered =
          by_case (nat_lt (base + relative) (2 ^ 64))
          (λ fits. (let same = sym (ap (attempt_by m first limits.values) uncovered) in rw fits same))
          (λ not. over (Ok None) (Ok (Some fde)) not)

      -- from the lowest start on
      pub scan-from : (fde : Fde) → nearest_fde (base + relative) (whole_fdes s) ≡ Some fde
          → ((row : Row ℕ) → fde_row limits.rows s m.vendor fde (base + relative) ≡ Ok row → contains (base + relative) fde ≡ true)
          → attempt m limits (scanned_data other h) relative first ≡ attempt m limits (headed_data h) relative first
      scan-from fde nearest within =
          by_case (contains (base + relative) fde)
          (scan-alike fde (listed fde nearest))
          (λ out.
          scan-says
          ∙ ap (λ (r : Result Fde Error). said (fde_by_scan r)) (header_laws.scanned_outside s bases t.says t.is_truthful (base + relative) fde nearest out)
          ∙ said-uncovered fde (no-row fde (λ row is. let yes = within row is in cc))
          ∙ sym (headed fde nearest))

      -- below it
      module _ (fits : nat_lt (base + relative) (2 ^ 64) ≡ true) (none : nearest_fde (base + relative) (whole_fdes s) ≡ None) where
        -- what the header leads to has no row
        leads-nowhere : (found : LeadsAbove h relative) → by_fde limits.rows m.vendor s (base + relative) found.fde ≡ Uncovered
        leads-nowhere found =
            let above = no-row-below limits.rows s m.vendor found.fde (base + relative) found.above in
            no-row found.fde (λ row is. cc)

        pub left-uncovered : 0 < t.says.count → (offset : ℕ) → offset_headed h relative ≡ Some offset → covered_by_fde limits.rows m.vendor s base relative offset ≡ Uncovered
        left-uncovered rows offset leads =
            let found = header-above fits none rows in
            let same : found.fde.head.offset ≡ offset = (let e : Some found.fde.head.offset ≡ Some offset = sym found.leads ∙ leads in cc) in
            let left : by_entry limits.rows m.vendor s (base + relative) (fde_from_offset s found.fde.head.offset) ≡ Uncovered
            = ap (by_entry limits.rows m.vendor s (base + relative)) found.at_offset ∙ leads-nowhere found in
            ap (covered_by_fde limits.rows m.vendor s base relative) (sym same)
            ∙ ap (λ (c : Coverage). cond (nat_lt (base + relative) (2 ^ 64)) c NoAddress) left
            ∙ ap (λ (b : Bool). cond b Uncovered NoAddress) fits

        -- in range it is by what is found
        within-range : (found : FoundFde) → said found ≡ attempt_by_method m limits first (method_found s (base + relative) found)
        within-range found = ap (λ (b : Bool). attempt_by_method m limits first (method_found s (base + relative) (cond b found (Err (Dwarf LookupAddressOverflow))))) fits

        pub header-below : 0 < t.says.count → attempt m limits (headed_data h) relative first ≡ Says m.uncovered
        header-below rows =
            let found = header-above fits none rows in
            headed-says ∙ ap (λ (o : Option ℕ). said (fde_found s EhFrameHdrCouldNotFindAddress o)) found.leads
            ∙ ap (λ (r : Result Fde Error). said (fde_read r)) found.at_offset
            ∙ within-range (Ok (Some found.fde)) ∙ ap (attempt_by m first limits.values) (leads-nowhere found)

        pub index-below : attempt m limits (indexed_data other h) relative first ≡ SaysNothing
        index-below =
            index-says ∙ ap (λ (o : Option ℕ). said (fde_found s DwarfCfiIndexCouldNotFindAddress o)) (index-none fits none)
            ∙ within-range (Err DwarfCfiIndexCouldNotFindAddress)

        pub scan-below : attempt m limits (scanned_data other h) relative first ≡ Says m.uncovered
        scan-below =
            scan-says ∙ ap (λ (r : Result Fde Error). said (fde_by_scan r)) (scan-none fits none)
            ∙ within-range (Ok None)
