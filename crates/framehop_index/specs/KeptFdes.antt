-- What a pass over the entries of a section keeps for its index.
use Rattle.std.specs.Prelude.{ℕ}
use Rattle.dwarf_frame_rows.specs.FrameSection.{FrameSection}
use Rattle.framehop_index.specs.CfiIndex.{KeepsAll}
use Rattle.framehop_index.specs.KeptCies.{AreKeptOf}
use Rattle.framehop_index.specs.declared.cfi_index.KeptFdes.{KeptFdes}

-- These are what is kept of a section's FDEs, with starts relative to this base, and of its first CIEs.
abbrev pub KeepsSection : KeptFdes → (base : ℕ) → FrameSection → Type 0
KeepsSection kept base section = KeepsAll kept.fdes.items kept.left_out base section × AreKeptOf section kept.cies
