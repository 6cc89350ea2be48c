-- Entries of the code as values of the definitions: readers as stretches, and offsets as numbers.
use Rattle.std.specs.Prelude.{ℕ, Option, option_map, Result, Ok, Err}
use Rattle.dwarf_constants.specs.declared.common.Format.{Format}
use Rattle.dwarf_constants.specs.declared.error.Error.{Error}
use Rattle.dwarf_endianity.specs.Answers.{Gives}
use Rattle.dwarf_readers.specs.Stretch.{ReadsAs, Stretch}
use Rattle.dwarf_frame_rows.specs.FrameSection.{FrameSection}
use Rattle.dwarf_frame_entries.specs.Entries.{AnyEntry, Cie, PartialFde, cie_at, entry_at, entry_within}
use Rattle.dwarf_frame_entries.specs.EntryLists.{GivesEntry}
use Rattle.dwarf_frame_entries.specs.HeadViews.{head_view}
use Rattle.dwarf_frame_entries.specs.declared.cie.CommonInformationEntry.{CommonInformationEntry}
use Rattle.dwarf_frame_entries.specs.declared.cie.Head.{Head as Read}
use Rattle.dwarf_frame_entries.specs.declared.entries.Entry.{Entry}
use Rattle.dwarf_frame_entries.specs.declared.entries.Entry.TheVariants as which

-- a CIE
abbrev pub cie_view : {R E O : Type 0} → (R → Stretch) → (O → ℕ) → CommonInformationEntry R E O → Cie
cie_view stretch value cie = record {
  head = head_view value cie.head;
  format = cie.format;
  version = cie.version;
  address_size = cie.address_size;
  augmentation = cie.augmentation;
  code_alignment_factor = cie.code_alignment_factor;
  data_alignment_factor = cie.data_alignment_factor;
  return_address_register = cie.return_address_register;
  instructions = stretch cie.instructions;
}

-- an entry of either kind
abbrev pub entry_view : {R E O : Type 0} → (R → Stretch) → (O → ℕ) → Entry (CommonInformationEntry R E O) PartialFde → AnyEntry
entry_view stretch value (which.Cie cie) = which.Cie (cie_view stretch value cie)
entry_view stretch value (which.Fde partial) = which.Fde partial

-- an item of a list of entries
abbrev pub item_view : {R E O : Type 0} → (R → Stretch) → (O → ℕ)
    → Result (Entry (CommonInformationEntry R E O) PartialFde) Error → Result AnyEntry Error
item_view stretch value (Ok entry) = Ok (entry_view stretch value entry)
item_view stretch value (Err e) = Err e

-- The code read an entry at the start of a stretch, if one is there, and left the rest.
abbrev pub ReadsEntry : {R E O : Type 0} → (R → Stretch) → (O → ℕ) → FrameSection → R
    → Result (Option (Entry (CommonInformationEntry R E O) PartialFde)) Error → R → Type 0
ReadsEntry stretch value section old result new =
    ReadsAs (option_map (entry_view stretch value)) result (entry_at section (stretch old)) (stretch new)

-- The code read an entry from its id on.
abbrev pub GivesEntryWithin : {R E O : Type 0} → (R → Stretch) → (O → ℕ) → FrameSection → Read O → Format → R
    → Result (Entry (CommonInformationEntry R E O) PartialFde) Error → Type 0
GivesEntryWithin stretch value section head format body result =
    Gives (entry_view stretch value) result (entry_within section (head_view value head) format (stretch body))

-- The code read a CIE from its version on.
abbrev pub GivesCieAt : {R E O : Type 0} → (R → Stretch) → (O → ℕ) → FrameSection → Read O → Format → R
    → Result (CommonInformationEntry R E O) Error → Type 0
GivesCieAt stretch value section head format input result =
    Gives (cie_view stretch value) result (cie_at section (head_view value head) format (stretch input))

-- The code read the next entry of a stretch and left the others, or found the end of the list or its error.
abbrev pub GivesNextEntry : {R E O : Type 0} → (R → Stretch) → (O → ℕ) → FrameSection
    → Result (Option (Entry (CommonInformationEntry R E O) PartialFde)) Error → R → R → Type 0
GivesNextEntry stretch value section result old new = GivesEntry (entry_view stretch value) section result (stretch old) (stretch new)

-- A call returned this CIE, or this error.
abbrev pub GivesCie : {R E O : Type 0} → (R → Stretch) → (O → ℕ) → Result (CommonInformationEntry R E O) Error → Result Cie Error → Type 0
GivesCie stretch value result answer = Gives (cie_view stretch value) result answer
