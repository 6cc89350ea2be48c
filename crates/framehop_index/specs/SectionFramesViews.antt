-- Sections of call frames with what finds their FDEs, as contracts see them.
use Rattle.std.specs.Prelude.{◌≡◌, ℕ, false, List, Option, Some, Result, IfOk, IfSome}
use Rattle.dwarf_call_frames.specs.Linked.{IsKeptOf}
use Rattle.dwarf_frame_rows.specs.FrameSection.{FrameSection}
use Rattle.dwarf_frame_rows.specs.declared.base_addresses.BaseAddresses.{BaseAddresses}
use Rattle.framehop_errors.specs.declared.cfi_index.DwarfCfiIndexError.{DwarfCfiIndexError}
use Rattle.framehop_index.specs.CfiIndex.{IsMadeOf}
use Rattle.framehop_index.specs.CfiIndexCies.{IsIndexWithCies}
use Rattle.framehop_index.specs.EntryFor.{has_index}
use Rattle.framehop_index.specs.FdeLookups.{FoundFde, Lookup, ByHeader, ByIndex, ByScan, fde_by}
use Rattle.framehop_index.specs.Lookups.{found_by_header, parsed_header}
use Rattle.framehop_index.specs.declared.cfi_index.IndexWithCies.{IndexWithCies}
use Rattle.framehop_index.specs.declared.section_frames.Entries.{Entries}
use Rattle.framehop_index.specs.declared.section_frames.Entries.TheVariants as by

-- the lookup, by the bytes of a header
abbrev pub entries_view : {D : Type 0} → (D → List ℕ) → Entries D → Lookup
entries_view content (by.Header header) = ByHeader (content header.bytes)
entries_view content (by.Index index) = ByIndex
entries_view content by.Unindexed = ByIndex
entries_view content by.Scan = ByScan

-- the FDE that the lookup finds for an address that is relative to a base and has 64 bits
abbrev pub entries_fde : {D : Type 0} → (D → List ℕ) → Entries D → BaseAddresses → FrameSection → (base relative : ℕ) → FoundFde
entries_fde content entries bases section base relative = fde_by (entries_view content entries) bases section base relative

-- the offset that the table of the header of these bytes names for an address relative to a base
abbrev pub offset_by_bytes : BaseAddresses → List ℕ → (base relative : ℕ) → Option ℕ
offset_by_bytes bases bytes base relative = found_by_header bases (parsed_header bases (Some bytes)) base relative

-- What is kept of a header is that of its bytes, an index and the CIEs beside it are those of the section, with starts relative to this
-- base; and a section that has an index doesn't lack it.
abbrev pub AreFoundBy : {D : Type 0} → (D → List ℕ) → BaseAddresses → (base : ℕ) → FrameSection → Entries D → Type 0
AreFoundBy content bases base section (by.Header header) = IfSome header.kept (IsKeptOf bases (content header.bytes))
AreFoundBy content bases base section (by.Index index) = IsIndexWithCies index base section
AreFoundBy content bases base section by.Unindexed = has_index section ≡ false
AreFoundBy content bases base section by.Scan = Unit {0}

-- If this is the index of a section, or why it has none, then its FDEs are found as the result says, if there is one.
abbrev pub MakesEntries : {D E : Type 0} → Result IndexWithCies DwarfCfiIndexError → Result (Entries D) E → Type 0
MakesEntries {D} index result =
    (base : ℕ) (section : FrameSection) → IsMadeOf index IsIndexWithCies base section
    → IfOk result (λ entries. (content : D → List ℕ) (bases : BaseAddresses) → AreFoundBy content bases base section entries)
