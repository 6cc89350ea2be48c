-- Indexes with the CIEs that are kept of the section, as contracts see them.
use Rattle.std.specs.Prelude.{ℕ}
use Rattle.dwarf_frame_rows.specs.FrameSection.{FrameSection}
use Rattle.framehop_index.specs.CfiIndexView.{IsIndexOf}
use Rattle.framehop_index.specs.KeptCies.{AreKeptOf}
use Rattle.framehop_index.specs.declared.cfi_index.IndexWithCies.{IndexWithCies}

-- The index is that of the section, with starts relative to this base, and the CIEs are the first of the section.
abbrev pub IsIndexWithCies : IndexWithCies → (base : ℕ) → FrameSection → Type 0
IsIndexWithCies made base section = IsIndexOf made.index base section × AreKeptOf section made.cies
