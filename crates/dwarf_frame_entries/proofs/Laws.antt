-- What the crates above cite: laws of the entries of a section, each the contract of a function of the crate, and why a lookup
-- fails that doesn't allocate.
use Rattle.std.proofs.Common.{◌≡◌, ℕ, List, ◌∷◌, Result, subst}
use Rattle.std.specs.List.{All}
use Rattle.std.proofs.lemmas.List.Elements.{All-head, All-tail}
use Rattle.dwarf_constants.specs.declared.error.Error.{Error}
use Rattle.dwarf_readers.specs.Memory.{NeverWantsMemory}
use Rattle.dwarf_frame_rows.specs.FrameSection.{FrameSection}
use Rattle.dwarf_frame_entries.specs.Entries.{AnyEntry, fde_from_offset}
use Rattle.dwarf_frame_entries.specs.EntryLists.{HasNoMoreThanBytes, entries_of}
use Rattle.dwarf_frame_entries.specs.SectionFdes.{CiesStandAtTheirOffsets, IsOfSection, StandsAtItsOffset, StandsThere, whole_fdes}
use Rattle.dwarf_frame_entries.proofs.EntryCounts as counts
use Rattle.dwarf_frame_entries.proofs.EntryOffsets as offsets
use Rattle.dwarf_frame_entries.proofs.LookupMemory as lookups
pub use Rattle.dwarf_frame_entries.proofs.Kept.{after-insert, none-kept}
pub use Rattle.dwarf_frame_entries.proofs.RowLookups.{found-with-memory}

-- each entry of a section is what stands at its offset
pub entries_there : (section : FrameSection) → All (StandsThere section) (entries_of section)
entries_there = offsets.entries_there

-- each FDE of a section is read in it
pub fdes_of_section : (section : FrameSection) → All (IsOfSection section) (entries_of section)
fdes_of_section = offsets.fdes_of_section

-- the first of those that are left is
pub first_of_section : (section : FrameSection) (all left : List (Result AnyEntry Error)) (item : Result AnyEntry Error) → all ≡ item ∷ left → All (IsOfSection section) all → IsOfSection section item
first_of_section section all left item is of = All-head (IsOfSection section) item left (subst (All (IsOfSection section)) is of)

-- and so are the others
pub others_of_section : (section : FrameSection) (all left : List (Result AnyEntry Error)) (item : Result AnyEntry Error) → all ≡ item ∷ left → All (IsOfSection section) all → All (IsOfSection section) left
others_of_section section all left item is of = All-tail (IsOfSection section) item left (subst (All (IsOfSection section)) is of)

-- each FDE of a section is what stands at its offset
pub fdes_there : (section : FrameSection) → All (StandsAtItsOffset section) (whole_fdes section)
fdes_there = offsets.fdes_there

-- the CIE of an FDE of a section is what stands at its own offset
pub fde_cie_there : (section : FrameSection) → CiesStandAtTheirOffsets section
fde_cie_there = offsets.fde_cie_there

-- a section has no more entries than bytes
pub entries_within_bytes : (section : FrameSection) → HasNoMoreThanBytes section
entries_within_bytes = counts.within_bytes

-- no lookup by an offset wants memory
pub fde_memory : (section : FrameSection) (offset : ℕ) → NeverWantsMemory (fde_from_offset section offset)
fde_memory = lookups.fde_memory
