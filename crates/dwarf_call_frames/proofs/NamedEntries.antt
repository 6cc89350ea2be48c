-- The entry that the row for an address names, and its row.
use Rattle.std.proofs.Common.{◌≡◌, ℕ, Bool, true, false, Result, Ok, Err, sym, ap, ◌∙◌, inl, inr}
use Rattle.std.specs.Prelude.{◌⊎◌, IsTrue}
use Rattle.std.specs.Borrow.{Bor}
use Rattle.dwarf_constants.specs.declared.common.Vendor.{Vendor}
use Rattle.dwarf_constants.specs.declared.error.Error.{Error}
use Rattle.dwarf_constants.specs.declared.error.Error.TheVariants.{NoUnwindInfoForAddress, OutOfMemory}
use Rattle.dwarf_readers.specs.Stretch.{◌>>=◌, requirement}
use Rattle.dwarf_frame_rows.specs.Effects.{Limits}
use Rattle.dwarf_frame_rows.specs.declared.base_addresses.BaseAddresses.{BaseAddresses}
use Rattle.dwarf_frame_rows.specs.declared.pointer.Pointer.{Pointer}
use Rattle.dwarf_frame_rows.specs.declared.row.UnwindTableRow.{UnwindTableRow}
use Rattle.dwarf_frame_rows.specs.FrameSection.{FrameSection}
use Rattle.dwarf_frame_instructions.specs.Execution.{IsRefusal}
use Rattle.dwarf_frame_instructions.specs.ProgramRows.{IsRowFor}
use Rattle.dwarf_frame_entries.specs.Entries.{Fde, contains, fde_from_offset}
use Rattle.dwarf_frame_entries.specs.EntryPrograms.{fde_row}
use Rattle.dwarf_call_frames.specs.Header.{Header, offset_of_pointer}
use Rattle.dwarf_call_frames.specs.HeaderEntries.{fde_by_header, named_offset, row_by_header}
use Rattle.dwarf_call_frames.specs.HeaderTable.{header_row, header_table}

-- an FDE, if it contains an address
abbrev Containing : ℕ → Result Fde Error → Result Fde Error
Containing address found = found >>= λ fde. requirement (contains address fde) NoUnwindInfoForAddress >>= λ _. Ok fde

-- the offset by the pointer in a row
pub offset-named : (limit : ℕ) (bases : BaseAddresses) (header : Header) (address : ℕ) (pointer : Pointer) (offset : ℕ) → Ok pointer ≡ header_row limit address (header_table bases.eh_frame_hdr header)
    → offset_of_pointer limit header pointer ≡ Ok offset → named_offset limit bases header address ≡ Ok offset
offset-named limit bases header address pointer offset row place = ap (λ (r : Result Pointer Error). r >>= λ p. offset_of_pointer limit header p) (sym row) ∙ place

-- no offset is named
pub fde-unnamed : (section : FrameSection) (bases : BaseAddresses) (header : Header) (address : ℕ) (e : Error) → named_offset section.limit bases header address ≡ Err e
    → fde_by_header section bases header address ≡ Err e
fde-unnamed section bases header address e is = ap (λ (r : Result ℕ Error). r >>= λ o. Containing address (fde_from_offset section o)) is

module _ (section : FrameSection) (bases : BaseAddresses) (header : Header) (address offset : ℕ) (place : named_offset section.limit bases header address ≡ Ok offset) where
  named : fde_by_header section bases header address ≡ Containing address (fde_from_offset section offset)
  named = ap (λ (r : Result ℕ Error). r >>= λ o. Containing address (fde_from_offset section o)) place

  -- it is refused, or memory is wanted
  pub fde-refused : (may_allocate : Bool) (e : Error) → (fde_from_offset section offset ≡ Err e) ⊎ (IsTrue may_allocate × (e ≡ OutOfMemory))
      → (fde_by_header section bases header address ≡ Err e) ⊎ (IsTrue may_allocate × (e ≡ OutOfMemory))
  fde-refused may_allocate e (inl is) = inl (named ∙ ap (Containing address) is)
  fde-refused may_allocate e (inr wants) = inr wants

  tested : (fde : Fde) (test : Bool) → contains address fde ≡ test → Containing address (Ok fde) ≡ (requirement test NoUnwindInfoForAddress >>= λ _. Ok fde)
  tested fde test is = ap (λ (b : Bool). requirement b NoUnwindInfoForAddress >>= λ _. Ok fde) is

  -- it contains the address
  pub fde-containing : (fde : Fde) → fde_from_offset section offset ≡ Ok fde → contains address fde ≡ true → fde_by_header section bases header address ≡ Ok fde
  fde-containing fde is inside = named ∙ ap (Containing address) is ∙ tested fde true inside

  -- it doesn't
  pub fde-outside : (fde : Fde) → fde_from_offset section offset ≡ Ok fde → contains address fde ≡ false → fde_by_header section bases header address ≡ Err NoUnwindInfoForAddress
  fde-outside fde is outside = named ∙ ap (Containing address) is ∙ tested fde false outside

module _ (limits : Limits) (section : FrameSection) (vendor : Vendor) (bases : BaseAddresses) (header : Header) (address : ℕ) where
  from-fde : (found : Result Fde Error) → fde_by_header section bases header address ≡ found
      → row_by_header limits section vendor bases header address ≡ (found >>= λ fde. fde_row limits section vendor fde address)
  from-fde found is = ap (λ (r : Result Fde Error). r >>= λ fde. fde_row limits section vendor fde address) is

  no-memory : (may_allocate : Bool) → IsTrue may_allocate → may_allocate ≡ false → ⊥
  no-memory true wants none = cc
  no-memory false wants none = cc

  -- the entry is refused
  pub row-refused : (Fixed : Type 0) (may_allocate : Bool) (e : Error) → (fde_by_header section bases header address ≡ Err e) ⊎ (IsTrue may_allocate × (e ≡ OutOfMemory))
      → IsRefusal (Fixed × (may_allocate ≡ false)) e → row_by_header limits section vendor bases header address ≡ Err e
  row-refused Fixed may_allocate e (inl is) refusal = from-fde (Err e) is
  row-refused Fixed may_allocate e (inr wants) (inl fixed) = absurd (no-memory may_allocate wants.0 fixed.1)
  row-refused Fixed may_allocate e (inr wants) (inr other) = absurd (other wants.1)

  -- the entry has a row, or none
  pub row-of-fde : {O L : Type 0} (number : O → ℕ) (Fixed : Type 0) (may_allocate : Bool) (fde : Fde) (result : Result (Bor (UnwindTableRow O L)) Error)
      → fde_by_header section bases header address ≡ Ok fde → IsRowFor number Fixed (fde_row limits section vendor fde address) result
      → IsRowFor number (Fixed × (may_allocate ≡ false)) (row_by_header limits section vendor bases header address) result
  row-of-fde number Fixed may_allocate fde (Ok shown) is gives = from-fde (Ok fde) is ∙ gives
  row-of-fde number Fixed may_allocate fde (Err e) is gives =
      elim [ inl fixed ↦ from-fde (Ok fde) is ∙ gives (inl fixed.0) | inr other ↦ from-fde (Ok fde) is ∙ gives (inr other) ]
