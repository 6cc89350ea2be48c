-- Which FDE the index of a section has from one start to the next.
use Rattle.std.specs.Prelude.{◌≡◌, ◌<◌, ◌≤◌, ◌+◌, ℕ, List, length, Some, None, Ok}
use Rattle.std.specs.List.{slice_index_or}
use Rattle.dwarf_frame_rows.specs.FrameSection.{FrameSection}
use Rattle.dwarf_frame_entries.specs.Entries.{Fde, fde_from_offset}
use Rattle.framehop_index.specs.Lookups.{found_by_index}
use Rattle.framehop_index.specs.declared.cfi_index.IndexedFde.{IndexedFde}

-- An address is at or above the start at a place, and below the next one, if there is one.
pub record IsInSpan (kept : List IndexedFde) (place relative : ℕ) (d : IndexedFde) : Type 0 where
  pub within : place < length kept
  pub from : (slice_index_or kept place d).start ≤ relative
  pub below : place + 1 < length kept → relative < (slice_index_or kept (place + 1) d).start

-- An index with these FDEs has none below their starts, from each start to the next the FDE there, and each FDE that it has for an
-- address starts at or below it.
pub record HasInSpans (kept : List IndexedFde) (base : ℕ) (section : FrameSection) : Type 0 where
  pub none : (relative : ℕ) (d : IndexedFde) → (0 < length kept → relative < (slice_index_or kept 0 d).start)
      → found_by_index section base relative ≡ None
  pub some : (place relative : ℕ) (d : IndexedFde) → IsInSpan kept place relative d
      → found_by_index section base relative ≡ Some (slice_index_or kept place d).offset
  pub starts : (relative offset : ℕ) (fde : Fde) → found_by_index section base relative ≡ Some offset
      → fde_from_offset section offset ≡ Ok fde → fde.initial_address ≤ base + relative
