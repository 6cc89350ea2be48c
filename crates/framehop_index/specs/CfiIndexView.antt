-- Indexes as contracts see them.
use Rattle.std.specs.Prelude.{◌≡◌, ◌≤◌, ◌^◌, ℕ, suc, length, Option}
use Rattle.dwarf_frame_rows.specs.FrameSection.{FrameSection}
use Rattle.framehop_index.specs.CfiIndex.{Indexes}
use Rattle.framehop_index.specs.EntryFor.{indexed_fdes, left_out}
use Rattle.framehop_index.specs.Lookups.{found_by_index}
use Rattle.framehop_index.specs.declared.cfi_index.DwarfCfiIndex.{DwarfCfiIndex}

-- the index is that of the section, with starts relative to this base
abbrev pub IsIndexOf : DwarfCfiIndex → ℕ → FrameSection → Type 0
IsIndexOf index base section = Indexes index.fdes.items index.left_out base section

-- What a look-up of a relative address gave is the offset of the FDE that the index of the section has.
abbrev pub IsOffsetByIndex : DwarfCfiIndex → (relative : ℕ) → Option ℕ → Type 0
IsOffsetByIndex index relative offset =
    (base : ℕ) (section : FrameSection) → IsIndexOf index base section → offset ≡ found_by_index section base relative

-- So many FDEs of the section are left out.
abbrev pub LeavesOut : DwarfCfiIndex → (count : ℕ) → Type 0
LeavesOut index count = (base : ℕ) (section : FrameSection) → IsIndexOf index base section → count ≡ left_out base section

-- So many starts of the index were read: at most ceil(log2(n)) + 1 of the n that it holds.
abbrev pub ReadsFew : DwarfCfiIndex → (reads : ℕ) → Type 0
ReadsFew index reads =
    (base : ℕ) (section : FrameSection) → IsIndexOf index base section
    → (k : ℕ) → length (indexed_fdes base section) ≤ 2 ^ k → reads ≤ suc k

-- So many starts of the index were read: at least floor(log2(n + 1)) of the n that it holds.
abbrev pub ReadsEnough : DwarfCfiIndex → (reads : ℕ) → Type 0
ReadsEnough index reads =
    (base : ℕ) (section : FrameSection) → IsIndexOf index base section
    → (k : ℕ) → 2 ^ k ≤ suc (length (indexed_fdes base section)) → k ≤ reads
