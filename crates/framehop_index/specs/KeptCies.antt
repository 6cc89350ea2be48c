-- Kept CIEs as contracts see them.
use Rattle.std.specs.Prelude.{◌≡◌, ℕ, ◌==◌, min, List, [], ◌∷◌, ◌++◌, length, map, take, Option, Ok}
use Rattle.std.specs.List.{All, find}
use Rattle.dwarf_frame_rows.specs.FrameSection.{FrameSection}
use Rattle.dwarf_frame_rows.specs.declared.base_addresses.BaseAddresses.{BaseAddresses}
use Rattle.dwarf_frame_entries.specs.Entries.{Cie, cie_from_offset}
use Rattle.dwarf_frame_entries.specs.KeptCies.{IsKeptAt}
use Rattle.dwarf_frame_entries.specs.declared.kept_cie.KeptCie.{KeptCie}
use Rattle.framehop_index.specs.FirstCies.{cie_offsets, most_kept}
use Rattle.framehop_index.specs.declared.kept_cies.KeptCies.{KeptCies}

-- the first that is kept of the CIE at an offset
abbrev pub kept_at : (offset : ℕ) → List KeptCie → Option KeptCie
kept_at offset cies = find (λ kept. kept.head.offset == offset) cies

-- This is kept of the CIE of a section at its own offset.
abbrev pub IsKeptIn : FrameSection → KeptCie → Type 0
IsKeptIn section kept = IsKeptAt section kept.head.offset kept

-- Of the CIEs of a section at these offsets the first are kept, and no other.
pub record AreFirstKept (section : FrameSection) (offsets : List ℕ) (kept : KeptCies) : Type 0 where
  pub own : All (IsKeptIn section) kept.cies.items
  pub first : map (λ cie. cie.head.offset) kept.cies.items ≡ take most_kept offsets

-- The first CIEs of a section are kept.
abbrev pub AreKeptOf : FrameSection → KeptCies → Type 0
AreKeptOf section kept = AreFirstKept section (cie_offsets section) kept

-- So many CIEs of the section are kept.
abbrev pub CountsKept : KeptCies → (count : ℕ) → Type 0
CountsKept kept count = (section : FrameSection) → AreKeptOf section kept → count ≡ min most_kept (length (cie_offsets section))

-- If the first of some CIEs of a section were kept, and this one is what is at its offset there, then the first of those with it are.
abbrev pub KeepsMore : (BaseAddresses → FrameSection) → Cie → KeptCies → KeptCies → Type 0
KeepsMore frame cie old new =
    (bases : BaseAddresses) (offsets : List ℕ) → cie_from_offset (frame bases) cie.head.offset ≡ Ok cie
    → AreFirstKept (frame bases) offsets old → AreFirstKept (frame bases) (offsets ++ cie.head.offset ∷ []) new
