-- A lookup by a truthful header finds what a scan of the section does.
use Rattle.std.proofs.Common.{◌≡◌, ℕ, zero, suc, false, [], None, Result, Ok, Err, refl, sym, ap, ◌∙◌, arith}
use Rattle.std.specs.Prelude.{nat_le}
use Rattle.std.specs.List.{Contains}
use Rattle.std.proofs.lemmas.Bool.Decides.{nat_tests}
use Rattle.std.proofs.lemmas.List.Elements.{All-contains}
use Rattle.dwarf_constants.specs.declared.error.Error.{Error}
use Rattle.dwarf_constants.specs.declared.error.Error.TheVariants.{NoUnwindInfoForAddress}
use Rattle.dwarf_readers.specs.Stretch.{◌>>=◌}
use Rattle.dwarf_frame_rows.specs.declared.base_addresses.BaseAddresses.{BaseAddresses}
use Rattle.dwarf_frame_rows.specs.declared.pointer.Pointer.{Pointer}
use Rattle.dwarf_frame_rows.specs.FrameSection.{FrameSection}
use Rattle.dwarf_frame_entries.specs.AddressLookups.{fde_for_address_skipping}
use Rattle.dwarf_frame_entries.specs.Entries.{Fde, contains, fde_from_offset}
use Rattle.dwarf_frame_entries.specs.SectionFdes.{StandsAtItsOffset, nearest_fde, whole_fdes}
use Rattle.dwarf_frame_entries.proofs.Laws.{fdes_there}
use Rattle.list_laws.proofs.Laws.{by_case, by_option}
use Rattle.dwarf_call_frames.specs.Halving.{halving}
use Rattle.dwarf_call_frames.specs.Header.{Header, offset_of_pointer}
use Rattle.dwarf_call_frames.specs.HeaderEntries.{fde_by_header, named_offset}
use Rattle.dwarf_call_frames.specs.HeaderTable.{header_row, header_table, row_at_index, rows_between, rows_by_index}
use Rattle.dwarf_call_frames.specs.Truthful.{IsTruthful}
use Rattle.dwarf_call_frames.proofs.Halves.{halving-one}
use Rattle.dwarf_call_frames.proofs.NamedEntries.{fde-containing, fde-outside, fde-unnamed}
use Rattle.dwarf_call_frames.proofs.TruthfulRows.{named_below, named_nearest, nearest_there, scanned_below, scanned_contained, scanned_outside}

module _ (section : FrameSection) (bases : BaseAddresses) (header : Header) (t : IsTruthful section bases header) where
  there : (fde : Fde) → Contains (whole_fdes section) fde → fde_from_offset section fde.head.offset ≡ Ok fde
  there fde has = All-contains (StandsAtItsOffset section) (whole_fdes section) fde (fdes_there section) has

  -- the header gives this FDE
  outside : (address : ℕ) (fde : Fde) → Contains (whole_fdes section) fde → named_offset section.limit bases header address ≡ Ok fde.head.offset → contains address fde ≡ false
      → fde_by_header section bases header address ≡ Err NoUnwindInfoForAddress
  outside address fde has named out = fde-outside section bases header address fde.head.offset named fde (there fde has) out

  -- the header has no rows
  no-rows : (address : ℕ) → header.count ≡ 0 → fde_by_header section bases header address ≡ Err NoUnwindInfoForAddress
  no-rows address none =
      let table = header_table bases.eh_frame_hdr header in
      let rows : header_row section.limit address table ≡ Err NoUnwindInfoForAddress =
      ap (λ (r : Result ℕ Error). r >>= λ size. (halving address (rows_by_index section.limit size table)).reached) t.has_size
      ∙ ap (λ (n : ℕ). (halving address (rows_between (row_at_index section.limit t.size table) 0 n)).reached) none
      ∙ ap (λ h. h.reached) (halving-one address [] (omega arith)) in
      fde-unnamed section bases header address NoUnwindInfoForAddress (ap (λ (r : Result Pointer Error). r >>= λ p. offset_of_pointer section.limit header p) rows)

  below : (address : ℕ) → nearest_fde address (whole_fdes section) ≡ None → fde_by_header section bases header address ≡ Err NoUnwindInfoForAddress
  below address none = by_count header.count refl
    where
      by_count : (n : ℕ) → header.count ≡ n → fde_by_header section bases header address ≡ Err NoUnwindInfoForAddress
      by_count zero is = no-rows address is
      by_count (suc n) is =
          let (fde, found) = named_below section bases header t (omega arith) address none in
          let high : nat_le fde.initial_address address ≡ false = grind (arith, nat_tests, found.1.0) in
          let out : contains address fde ≡ false = rw high refl in
          outside address fde found.0 found.1.1 out

  pub header_as_scan : (address : ℕ) → fde_by_header section bases header address ≡ fde_for_address_skipping section address
  header_as_scan address =
      by_option (nearest_fde address (whole_fdes section))
      (λ fde near.
      let has = nearest_there address (whole_fdes section) fde near in
      let named = named_nearest section bases header t address fde near in
      by_case (contains address fde)
      (λ inside. fde-containing section bases header address fde.head.offset named fde (there fde has) inside ∙ sym (scanned_contained section bases header t address fde has inside))
      (λ out. outside address fde has named out ∙ sym (scanned_outside section bases header t address fde near out)))
      (λ none. below address none ∙ sym (scanned_below section bases header t address none))
