-- What calls write of entries.
use Rattle.std.specs.Prelude.{◌≡◌, ℕ, Bool, List, ◌++◌, Option, Result, IfOk, Vec}
use Rattle.std.specs.Global.{Global}
use Rattle.json_program.specs.Stream.{WritesText}
use Rattle.dwarf_constants.specs.declared.common.Vendor.{Vendor}
use Rattle.dwarf_constants.specs.declared.error.Error.{Error}
use Rattle.dwarf_readers.specs.Stretch.{Stretch}
use Rattle.dwarf_frame_entries.specs.Entries.{PartialFde}
use Rattle.dwarf_frame_entries.specs.EntryViews.{cie_view, entry_view}
use Rattle.dwarf_frame_entries.specs.declared.cie.CommonInformationEntry.{CommonInformationEntry}
use Rattle.dwarf_frame_entries.specs.declared.entries.Entry.{Entry}
use Rattle.dwarf_frame_entries.specs.declared.entries.Entry.TheVariants as which
use Rattle.dwarf_frame_instructions.specs.Programs.{EntryProgram}
use Rattle.dwarf_frame_rows.specs.Effects.{Limits}
use Rattle.dwarf_frame_rows.specs.declared.base_addresses.BaseAddresses.{BaseAddresses}
use Rattle.dwarf_frame_rows.specs.FrameSection.{FrameSection}
use Rattle.frame_table.specs.Entries.{Part, Setting, cie_program, listed_part, part_with}
use Rattle.frame_table.specs.Listing.{Listing, listing_of}
use Rattle.frame_table.specs.declared.listed.Listed.{Listed}
use Rattle.frame_table.specs.declared.parts.PartEnd.{PartEnd}
use Rattle.frame_table.specs.Tables.{Table}
use Rattle.frame_table.specs.TableViews.{table_view}
use Rattle.frame_table.specs.declared.names.Machine.{Machine}
use Rattle.frame_table.specs.declared.tables.Table.{Table as Made}

-- a setting of these parts
abbrev pub setting : Limits → FrameSection → Vendor → Option Machine → Setting
setting limits section vendor machine = record { section = section; vendor = vendor; machine = machine; limits = limits }

-- a section of the code that is listed, by what its type says of it
abbrev pub section_by : {S : Type 0} → (S → BaseAddresses → FrameSection) → Listed S → FrameSection
section_by frame listed = frame listed.section.now listed.bases.now

-- .. and how
abbrev pub setting_by : {S : Type 0} → (S → BaseAddresses → FrameSection) → (S → Vendor) → Limits → Listed S → Setting
setting_by frame extensions limits listed = setting limits (section_by frame listed) (extensions listed.section.now) listed.machine

-- the program of a CIE of a section of the code, by what its type says of it
abbrev pub own_program : {S R E O : Type 0} → (S → BaseAddresses → FrameSection) → (S → Vendor) → S → BaseAddresses → (R → Stretch) → (O → ℕ)
    → CommonInformationEntry R E O → EntryProgram ℕ
own_program frame extensions section bases stretch value cie = cie_program (frame section bases) (extensions section) (cie_view stretch value cie)

-- how a part ends, as the code has it
abbrev pub end_of_part : Part → PartEnd
end_of_part part = record { offset = part.end; is_whole = part.is_whole }

-- A call appended a part to a text, and returned how it ends.
abbrev pub WritesPart : {E : Type 0} → Part → List ℕ → List ℕ → Result PartEnd E → Type 0
WritesPart part old new result = IfOk result (λ end. (new ≡ old ++ part.text) × (end ≡ end_of_part part))

-- A call appended the text of an entry of the code, by what the type of its section says, and returned how it ends.
abbrev pub Lists : {S R E O F : Type 0} → (S → BaseAddresses → FrameSection) → (S → Vendor) → Limits → Listed S → (R → Stretch) → (O → ℕ)
    → Entry (CommonInformationEntry R E O) PartialFde → Vec ℕ Global → Vec ℕ Global → Result PartEnd F → Type 0
Lists frame extensions limits listed stretch value entry old new result =
    WritesPart (listed_part (setting_by frame extensions limits listed) (entry_view stretch value entry)) old.items new.items result

-- a call did so of a CIE
abbrev pub ListsCie : {S R E O F : Type 0} → (S → BaseAddresses → FrameSection) → (S → Vendor) → Limits → Listed S → (R → Stretch) → (O → ℕ)
    → CommonInformationEntry R E O → Vec ℕ Global → Vec ℕ Global → Result PartEnd F → Type 0
ListsCie frame extensions limits listed stretch value cie old new result =
    WritesPart (listed_part (setting_by frame extensions limits listed) (which.Cie (cie_view stretch value cie))) old.items new.items result

-- a call did so of an FDE
abbrev pub ListsFde : {S F : Type 0} → (S → BaseAddresses → FrameSection) → (S → Vendor) → Limits → Listed S → PartialFde → Vec ℕ Global
    → Vec ℕ Global → Result PartEnd F → Type 0
ListsFde frame extensions limits listed partial old new result =
    WritesPart (listed_part (setting_by frame extensions limits listed) (which.Fde partial)) old.items new.items result

-- A call ended the text of the entry at an offset, which ends at another: with the line of the error, if there is one.
abbrev pub EndsPart : {E : Type 0} → ℕ → ℕ → Option Error → List ℕ → List ℕ → Result PartEnd E → Type 0
EndsPart offset end refusal old new result =
    (before body : List ℕ) → old ≡ before ++ body → WritesPart (part_with offset end body refusal) before new result

-- a call made this table
abbrev pub HasTable : {E : Type 0} → Table → Result Made E → Type 0
HasTable table result = IfOk result (λ made. table_view made ≡ table)

-- A call wrote a listing to a sink, and returned whether it has the whole section. After an error a prefix of the text is written.
pub record WritesListing {E : Type 0} (listing : Listing) (old new : Option (List ℕ)) (result : Result Bool E) : Type 0 where
  pub text : WritesText result old new listing.text
  pub is_whole : IfOk result (λ is_whole. is_whole ≡ listing.is_whole)

-- a call wrote the listing of a section of the code, by what its type says of it, to a sink with these contents
abbrev pub ListsSection : {S W E : Type 0} → (S → BaseAddresses → FrameSection) → (S → Vendor) → Limits → Listed S → (W → Option (List ℕ))
    → W → W → Result Bool E → Type 0
ListsSection frame extensions limits listed contents old new result =
    WritesListing (listing_of (setting_by frame extensions limits listed)) (contents old) (contents new) result
