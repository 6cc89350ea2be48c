-- Prefixes of entries as contracts see them.
use Rattle.std.specs.Prelude.{ℕ, List}
use Rattle.dwarf_readers.specs.Stretch.{Stretch}
use Rattle.dwarf_frame_entries.specs.EntryViews.{cie_view}
use Rattle.dwarf_frame_entries.specs.declared.cie.CommonInformationEntry.{CommonInformationEntry}
use Rattle.frame_table.specs.Entries.{cie_line}
use Rattle.frame_table.specs.EntryPrefix.{EntryPrefix}
use Rattle.frame_table.specs.declared.entry_prefix.CiePrefix.{CiePrefix}
use Rattle.frame_table.specs.declared.entry_prefix.EntryPrefix.{EntryPrefix as Read}

-- a prefix of the code
abbrev pub prefix_view : {R : Type 0} → (R → Stretch) → Read R → EntryPrefix
prefix_view stretch prefix = record { width = prefix.width; id = prefix.id; parts = stretch prefix.parts; end = prefix.end }

-- a prefix of a CIE with the text of its augmentation
abbrev pub cie_prefix_view : {R : Type 0} → (R → Stretch) → CiePrefix R → EntryPrefix × List ℕ
cie_prefix_view stretch prefix = (prefix_view stretch prefix.entry, (stretch prefix.augmentation).bytes)

-- the line of a CIE of the code, whose prefix is read
abbrev pub cie_line_of : {R E O : Type 0} → (R → Stretch) → (O → ℕ) → CommonInformationEntry R E O → CiePrefix R → List ℕ
cie_line_of stretch value cie prefix = cie_line (cie_view stretch value cie) (cie_prefix_view stretch prefix)
