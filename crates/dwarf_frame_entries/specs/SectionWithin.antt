-- Entries of a section by its contents.
use Rattle.std.specs.Prelude.{ℕ, Result}
use Rattle.dwarf_constants.specs.declared.error.Error.{Error}
use Rattle.dwarf_frame_rows.specs.FrameSection.{FrameSection, SectionContents}
use Rattle.dwarf_frame_rows.specs.SectionKind.{FrameSectionKind}
use Rattle.dwarf_frame_entries.specs.Entries.{Cie, Fde, cie_from_offset, fde_from_offset}

-- the section of a kind that has these contents
abbrev pub section_within : (limit : ℕ) → FrameSectionKind → SectionContents → FrameSection
section_within limit kind within = record { limit = limit; kind = kind; within = within }

-- its CIE at an offset
abbrev pub cie_there : (limit : ℕ) → FrameSectionKind → SectionContents → (offset : ℕ) → Result Cie Error
cie_there limit kind within offset = cie_from_offset (section_within limit kind within) offset

-- its FDE at an offset
abbrev pub fde_there : (limit : ℕ) → FrameSectionKind → SectionContents → (offset : ℕ) → Result Fde Error
fde_there limit kind within offset = fde_from_offset (section_within limit kind within) offset
