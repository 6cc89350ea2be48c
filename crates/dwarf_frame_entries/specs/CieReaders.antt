-- Functions that read CIEs for lookups of FDEs, and what such a lookup gives by them.
use Rattle.std.specs.Prelude.{◌≡◌, ◌≢◌, ℕ, Bool, false, List, [], ◌∷◌, Result, IfErr}
use Rattle.std.specs.Borrow.{Bor}
use Rattle.dwarf_constants.specs.declared.common.Vendor.{Vendor}
use Rattle.dwarf_constants.specs.declared.error.Error.{Error}
use Rattle.dwarf_constants.specs.declared.error.Error.TheVariants.{OutOfMemory}
use Rattle.dwarf_readers.specs.Stretch.{Stretch}
use Rattle.dwarf_frame_rows.specs.Effects.{Limits}
use Rattle.dwarf_frame_rows.specs.Row.{Row}
use Rattle.dwarf_frame_rows.specs.declared.base_addresses.BaseAddresses.{BaseAddresses}
use Rattle.dwarf_frame_rows.specs.declared.row.UnwindTableRow.{UnwindTableRow}
use Rattle.dwarf_frame_rows.specs.FrameSection.{FrameSection}
use Rattle.dwarf_frame_instructions.specs.ProgramRows.{IsRowFor}
use Rattle.dwarf_frame_entries.specs.declared.cie.CommonInformationEntry.{CommonInformationEntry}
use Rattle.dwarf_frame_entries.specs.AddressLookups.{fde_for_address, fde_for_address_skipping, section_row}
use Rattle.dwarf_frame_entries.specs.Entries.{Fde, PartialFde, cie_from_offset, cie_of, fde_from_offset}
use Rattle.dwarf_frame_entries.specs.EntryViews.{cie_view}
use Rattle.dwarf_frame_entries.specs.Memory.{MayGive}

-- what such a function returns
abbrev pub CieResult : (R E O : Type 0) → Type 0
CieResult R E O = Result (CommonInformationEntry R E O) Error

-- How contracts see a function that reads CIEs: its steps, what the reader of a CIE and its offsets stand for, and the section and the
-- offset that it is asked for.
pub record CieCalls (F S N R E O : Type 0) : Type 1 where
  pub step : F → Bor S → Bor BaseAddresses → N → CieResult R E O → F → Type 0
  pub stretch : R → Stretch
  pub value : O → ℕ
  pub frame : S → BaseAddresses → FrameSection
  pub number : N → ℕ

abbrev pub cies : {F S N R E O : Type 0} → (F → Bor S → Bor BaseAddresses → N → CieResult R E O → F → Type 0) → (R → Stretch) → (O → ℕ)
    → (S → BaseAddresses → FrameSection) → (N → ℕ) → CieCalls F S N R E O
cies step stretch value frame number =
    record { step = step; stretch = stretch; value = value; frame = frame; number = number }

-- If a function reads CIEs so, a lookup returned this FDE, or this error; or OutOfMemory, if the function may allocate.
abbrev pub GivesByCies : ((may_allocate : Bool) → Type 0) → Result Fde Error → Result Fde Error → Type 0
GivesByCies reads result answer = (may_allocate : Bool) → reads may_allocate → MayGive may_allocate (λ fde. fde) result answer

-- If a function reads CIEs so, a lookup returned this row, or this error; or OutOfMemory, if the storage or the function may
-- allocate, and never if neither does. `Fixed` says that the storage doesn't.
pub record IsRowByCies {O L : Type 0} (number : O → ℕ) (Fixed : Type 0) (reads : (may_allocate : Bool) → Type 0)
    (answer : Result (Row ℕ) Error) (result : Result (Bor (UnwindTableRow O L)) Error) : Type 0 where
  pub row : (may_allocate : Bool) → reads may_allocate → IsRowFor number (Fixed × (may_allocate ≡ false)) answer result
  pub memory : Fixed → reads false → IfErr result (λ e. e ≢ OutOfMemory)

module _ {F S N R E O : Type 0} (step : F → Bor S → Bor BaseAddresses → N → CieResult R E O → F → Type 0)
    (stretch : R → Stretch) (value : O → ℕ) (frame : S → BaseAddresses → FrameSection) (number : N → ℕ) where
  -- In this state, for the section that an FDE was read in and the offset of its CIE, the function returns that CIE, or the
  -- error; or OutOfMemory, if it may allocate.
  abbrev pub ReadsCieOf : PartialFde → F → (may_allocate : Bool) → Type 0
  ReadsCieOf partial get_cie may_allocate =
      (given : Bor S) (bases : Bor BaseAddresses) (offset : N) (result : CieResult R E O) (after : F)
      → let read_in = frame given.now bases.now in
      partial.within ≡ read_in.within → partial.cie_offset ≡ number offset → step get_cie given bases offset result after
      → MayGive may_allocate (cie_view stretch value) result (cie_of read_in.limit read_in.kind partial)

  -- In this state, for this section and any offset, the function returns the CIE there, or the error; or OutOfMemory, if it may
  -- allocate.
  abbrev pub ReadsCie : FrameSection → F → (may_allocate : Bool) → Type 0
  ReadsCie section get_cie may_allocate =
      (given : Bor S) (bases : Bor BaseAddresses) (offset : N) (result : CieResult R E O) (after : F)
      → frame given.now bases.now ≡ section → step get_cie given bases offset result after
      → MayGive may_allocate (cie_view stretch value) result (cie_from_offset section (number offset))

  -- From the state `first`, calls for CIEs of a section at these offsets, one after the other, may leave `last`.
  abbrev pub Leads : FrameSection → F → List N → F → Type 0
  Leads section first [] last = first ≡ last
  Leads section first (offset ∷ more) last =
      (given : Bor S) × (bases : Bor BaseAddresses) × (frame given.now bases.now ≡ section)
      × (result : CieResult R E O) × (mid : F) × step first given bases offset result mid × Leads section mid more last

  -- In this state, and after any calls for CIEs of this section, the function reads them.
  abbrev pub ReadsCies : FrameSection → F → (may_allocate : Bool) → Type 0
  ReadsCies section get_cie may_allocate =
      (offsets : List N) (last : F) → Leads section get_cie offsets last → ReadsCie section last may_allocate

  -- ---- what lookups in a section give

  -- If the function reads a CIE of the section, as it is called once, a lookup returned this FDE, or this error; or OutOfMemory,
  -- if the function may allocate.
  abbrev pub ReadsFde : S → BaseAddresses → F → Result Fde Error → (FrameSection → Result Fde Error) → Type 0
  ReadsFde given bases get_cie result answer =
      let section = frame given bases in GivesByCies (ReadsCie section get_cie) result (answer section)

  -- If the function reads CIEs of the section, a lookup returned this FDE, or this error; or OutOfMemory, if the function may
  -- allocate.
  abbrev pub FindsFdeBy : S → BaseAddresses → F → Result Fde Error → (FrameSection → Result Fde Error) → Type 0
  FindsFdeBy given bases get_cie result answer =
      let section = frame given bases in GivesByCies (ReadsCies section get_cie) result (answer section)

  module _ {L : Type 0} (Fixed : Type 0) where
    -- If the function reads a CIE of the section, as it is called once, a lookup returned this row, or this error; or OutOfMemory,
    -- if the storage or the function may allocate.
    abbrev pub ReadsRow : S → BaseAddresses → F → Result (Bor (UnwindTableRow O L)) Error → (FrameSection → Result (Row ℕ) Error)
        → Type 0
    ReadsRow given bases get_cie result answer =
        let section = frame given bases in IsRowByCies value Fixed (ReadsCie section get_cie) (answer section) result

    -- If the function reads CIEs of the section, a lookup returned this row, or this error; or OutOfMemory, if the storage or the
    -- function may allocate.
    abbrev pub FindsRow : S → BaseAddresses → F → Result (Bor (UnwindTableRow O L)) Error → (FrameSection → Result (Row ℕ) Error)
        → Type 0
    FindsRow given bases get_cie result answer =
        let section = frame given bases in IsRowByCies value Fixed (ReadsCies section get_cie) (answer section) result

module _ {F S N R E O : Type 0} (c : CieCalls F S N R E O) where
  -- `ReadsFde` of the FDE at this offset
  abbrev pub ReadsFdeAt : S → BaseAddresses → N → F → Result Fde Error → Type 0
  ReadsFdeAt given bases offset get_cie result =
      ReadsFde c.step c.stretch c.value c.frame c.number given bases get_cie result (λ section. fde_from_offset section (c.number offset))

  -- `FindsFdeBy` of the FDE for this address
  abbrev pub FindsFde : S → BaseAddresses → (address : ℕ) → F → Result Fde Error → Type 0
  FindsFde given bases address get_cie result =
      FindsFdeBy c.step c.stretch c.value c.frame c.number given bases get_cie result (λ section. fde_for_address section address)

  -- .. if FDEs that can't be read are passed over
  abbrev pub ScansFde : S → BaseAddresses → (address : ℕ) → F → Result Fde Error → Type 0
  ScansFde given bases address get_cie result =
      FindsFdeBy c.step c.stretch c.value c.frame c.number given bases get_cie result (λ section. fde_for_address_skipping section address)

  -- `FindsRow` of the row for this address
  abbrev pub FindsRowFor : {L : Type 0} → (Fixed : Type 0) → Limits → Vendor → S → BaseAddresses → (address : ℕ) → F
      → Result (Bor (UnwindTableRow O L)) Error → Type 0
  FindsRowFor Fixed limits vendor given bases address get_cie result =
      FindsRow c.step c.stretch c.value c.frame c.number Fixed given bases get_cie result (λ section. section_row limits section vendor address)
