-- What a lookup by a header gives, by a function that reads the CIEs of `.eh_frame`.
use Rattle.std.specs.Prelude.{ℕ, Result}
use Rattle.std.specs.Borrow.{Bor}
use Rattle.dwarf_constants.specs.declared.error.Error.{Error}
use Rattle.dwarf_offsets.specs.declared.EhFrameOffset.{EhFrameOffset}
use Rattle.dwarf_readers.specs.Stretch.{Stretch}
use Rattle.dwarf_frame_rows.specs.Effects.{Limits}
use Rattle.dwarf_frame_rows.specs.Row.{Row}
use Rattle.dwarf_frame_rows.specs.declared.base_addresses.BaseAddresses.{BaseAddresses}
use Rattle.dwarf_frame_rows.specs.declared.row.UnwindTableRow.{UnwindTableRow}
use Rattle.dwarf_frame_rows.specs.FrameSection.{FrameSection}
use Rattle.dwarf_frame_sections.specs.Sections.{FrameData}
use Rattle.dwarf_frame_entries.specs.CieReaders.{CieCalls, CieResult, ReadsFde, ReadsRow, cies}
use Rattle.dwarf_frame_entries.specs.Entries.{Fde}
use Rattle.dwarf_call_frames.specs.Header.{Header}
use Rattle.dwarf_call_frames.specs.HeaderEntries.{eh_frame_in, fde_by_header, row_by_header}

-- How contracts see a function that reads the CIEs of `.eh_frame`.
abbrev pub eh_cies : {F R E O : Type 0} → (F → Bor (FrameData R) → Bor BaseAddresses → EhFrameOffset O → CieResult R E O → F → Type 0)
    → (R → Stretch) → (O → ℕ) → (limit : ℕ) → CieCalls F (FrameData R) (EhFrameOffset O) R E O
eh_cies step stretch value limit = cies step stretch value (eh_frame_in stretch limit) (λ offset. value offset.0)

module _ {F R E O : Type 0} (c : CieCalls F (FrameData R) (EhFrameOffset O) R E O) where
  -- If the function reads a CIE of the section, as it is called once, a lookup returned this FDE, or this error; or OutOfMemory,
  -- if the function may allocate.
  abbrev pub NamesFde : FrameData R → BaseAddresses → F → Result Fde Error → (FrameSection → Result Fde Error) → Type 0
  NamesFde = ReadsFde c.step c.stretch c.value c.frame c.number

  -- .. the FDE that the header gives for this address
  abbrev pub NamesFdeFor : Header → FrameData R → BaseAddresses → (address : ℕ) → F → Result Fde Error → Type 0
  NamesFdeFor header frame bases address get_cie result =
      NamesFde frame bases get_cie result (λ section. fde_by_header section bases header address)

  -- If the function reads a CIE of the section, as it is called once, a lookup returned this row, or this error; or OutOfMemory,
  -- if the storage or the function may allocate. `Fixed` says that the storage doesn't.
  abbrev pub NamesRow : {L : Type 0} → (Fixed : Type 0) → FrameData R → BaseAddresses → F
      → Result (Bor (UnwindTableRow O L)) Error → (FrameSection → Result (Row ℕ) Error) → Type 0
  NamesRow = ReadsRow c.step c.stretch c.value c.frame c.number

  -- .. the row of that FDE for this address
  abbrev pub NamesRowFor : {L : Type 0} → (Fixed : Type 0) → Limits → Header → FrameData R → BaseAddresses → (address : ℕ) → F
      → Result (Bor (UnwindTableRow O L)) Error → Type 0
  NamesRowFor Fixed limits header frame bases address get_cie result =
      NamesRow Fixed frame bases get_cie result (λ section. row_by_header limits section frame.vendor bases header address)
