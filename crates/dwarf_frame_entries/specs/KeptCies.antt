-- CIEs that are kept without the bytes of their section.
use Rattle.std.specs.Prelude.{◌≡◌, ℕ, Option, IsSome, Ok}
use Rattle.dwarf_readers.specs.Stretch.{Stretch, behind, prefix}
use Rattle.dwarf_frame_rows.specs.FrameSection.{FrameSection}
use Rattle.dwarf_frame_rows.specs.declared.base_addresses.BaseAddresses.{BaseAddresses}
use Rattle.dwarf_frame_entries.specs.Entries.{Cie, cie_from_offset}
use Rattle.dwarf_frame_entries.specs.HeadViews.{head_view}
use Rattle.dwarf_frame_entries.specs.declared.kept_cie.KeptCie.{KeptCie}

-- the CIE of which this is kept, over the bytes of its section
abbrev pub cie_kept : Stretch → KeptCie → Cie
cie_kept bytes kept = record {
  head = head_view (λ n. n) kept.head;
  format = kept.format;
  version = kept.version;
  address_size = kept.address_size;
  augmentation = kept.augmentation;
  code_alignment_factor = kept.code_alignment_factor;
  data_alignment_factor = kept.data_alignment_factor;
  return_address_register = kept.return_address_register;
  instructions = prefix kept.count (behind kept.skipped bytes);
}

-- This is kept of the CIE at an offset of a section.
abbrev pub IsKeptAt : FrameSection → (offset : ℕ) → KeptCie → Type 0
IsKeptAt section offset kept = cie_from_offset section offset ≡ Ok (cie_kept section.within.bytes kept)

-- This is kept of a CIE, wherever in the section it is, and whatever its pointers are relative to.
abbrev pub IsKeptOf : (BaseAddresses → FrameSection) → Cie → KeptCie → Type 0
IsKeptOf frame cie kept = (bases : BaseAddresses) (offset : ℕ) → cie_from_offset (frame bases) offset ≡ Ok cie → IsKeptAt (frame bases) offset kept

-- Something is kept of a CIE that is in the section.
abbrev pub IsSomeOf : {A : Type 0} → (BaseAddresses → FrameSection) → Cie → Option A → Type 0
IsSomeOf frame cie kept = (bases : BaseAddresses) (offset : ℕ) → cie_from_offset (frame bases) offset ≡ Ok cie → IsSome kept
