-- Modules with one section `.eh_frame`, each unwound by another lookup, and when the header of the section is truthful.
use Rattle.std.specs.Prelude.{◌≡◌, ℕ, ◌+◌, Bool, List, true, Option, Some, Ok, None}
use Rattle.std.specs.List.{AllPass, Contains}
use Rattle.dwarf_frame_rows.specs.declared.base_addresses.BaseAddresses.{BaseAddresses}
use Rattle.dwarf_frame_rows.specs.FrameSection.{FrameSection}
use Rattle.dwarf_frame_entries.specs.Entries.{Fde, contains}
use Rattle.dwarf_frame_entries.specs.SectionFdes.{whole_fdes, nearest_fde}
use Rattle.dwarf_call_frames.specs.Header.{Header}
use Rattle.dwarf_call_frames.specs.Truthful.{IsTruthful}
use Rattle.framehop_rows.specs.RowMeanings.{RowMeanings}
use Rattle.framehop.specs.Attempts.{attempt}
use Rattle.framehop_loads.specs.StepLimits.{StepLimits}
use Rattle.framehop_index.specs.EntryFor.{fits_index}
use Rattle.framehop_index.specs.FrameSections.{eh_frame_of}
use Rattle.framehop_index.specs.Lookups.{eh_frame_hdr_of, found_by_header, parsed_header}
use Rattle.framehop_index.specs.FdeLookups.{Lookup, ByHeader, ByIndex, ByScan, PlacedFrames, placed}
use Rattle.framehop_index.specs.declared.section_type.UnwindSectionType.TheVariants.{EhFrame}
use Rattle.framehop_loads.specs.CallFrames.{alone}
use Rattle.framehop_loads.specs.UnwindData.{UnwindData, CallFrames}
use Rattle.framehop_loads.specs.declared.load_options.Rows.TheVariants as rows

-- The bytes of a section `.eh_frame` and of its header, the addresses that pointers in them are relative to, and the base that
-- relative addresses are relative to.
pub record HeadedSection : Type 0 where
  pub section : List ℕ
  pub header : List ℕ
  pub bases : BaseAddresses
  pub base : ℕ

-- the section
abbrev pub headed_section : HeadedSection → FrameSection
headed_section h = eh_frame_of h.bases h.section

-- the section with a lookup of its FDEs
abbrev pub frames_with : HeadedSection → BaseAddresses → Lookup → PlacedFrames
frames_with h bases lookup = placed (EhFrame h.section) lookup bases h.base

-- a module with this section alone, whose FDEs are found by a lookup
abbrev pub data_with : HeadedSection → BaseAddresses → Lookup → UnwindData
data_with h bases lookup = record {
  format = CallFrames (alone (frames_with h bases lookup));
  bases = bases;
  base_svma = h.base;
  code = None;
  rows = rows.Published;
}

-- a module that is unwound by the header
abbrev pub headed_data : HeadedSection → UnwindData
headed_data h = data_with h h.bases (ByHeader h.header)

-- a module that is unwound by an index
abbrev pub indexed_data : BaseAddresses → HeadedSection → UnwindData
indexed_data bases h = data_with h bases ByIndex

-- a module whose section is read at each step
abbrev pub scanned_data : BaseAddresses → HeadedSection → UnwindData
scanned_data bases h = data_with h bases ByScan

-- The header is truthful, and an index from this base can hold each FDE of the section that can be read.
pub record AreTruthful (h : HeadedSection) : Type 0 where
  pub says : Header
  pub parses : eh_frame_hdr_of h.bases h.header ≡ Ok says
  pub is_truthful : IsTruthful (headed_section h) h.bases says
  pub indexed : AllPass (fits_index h.base) (whole_fdes (headed_section h))

-- The header is truthful, and these bases are the header's for the section.
pub record AreTruthfulFor (h : HeadedSection) (bases : BaseAddresses) : Type 0 where
  pub truthful : AreTruthful h
  pub same : bases.eh_frame ≡ h.bases.eh_frame

-- An FDE of the section contains a relative address.
pub record IsFdeFor (h : HeadedSection) (relative : ℕ) (fde : Fde) : Type 0 where
  pub listed : Contains (whole_fdes (headed_section h)) fde
  pub contained : contains (h.base + relative) fde ≡ true

-- of the FDEs with the greatest start at or below a relative address, the first in the section
abbrev pub nearest_at : HeadedSection → (relative : ℕ) → Option Fde
nearest_at h relative = nearest_fde (h.base + relative) (whole_fdes (headed_section h))

-- the offset that the header names for a relative address
abbrev pub offset_headed : HeadedSection → (relative : ℕ) → Option ℕ
offset_headed h relative = found_by_header h.bases (parsed_header h.bases (Some h.header)) h.base relative

-- By the data of either of two modules the attempt at a relative address is the same.
abbrev pub AttemptsAlike : {Rule Registers : Type 0} → RowMeanings Rule Registers → StepLimits → (relative : ℕ) → UnwindData → UnwindData
    → Type 0
AttemptsAlike m limits relative one other = (first : Bool) → attempt m limits one relative first ≡ attempt m limits other relative first

-- By each lookup, with these bases in place of the header's, the attempt at a relative address is that by the header.
pub record AllAttemptAlike {Rule Registers : Type 0} (m : RowMeanings Rule Registers) (limits : StepLimits) (h : HeadedSection)
    (bases : BaseAddresses) (relative : ℕ) : Type 0 where
  pub by_index : AttemptsAlike m limits relative (indexed_data bases h) (headed_data h)
  pub by_scan : AttemptsAlike m limits relative (scanned_data bases h) (headed_data h)
