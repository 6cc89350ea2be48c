-- Sections that are made of bytes.
use Rattle.std.proofs.Common.{◌≡◌, ℕ, ◌^◌, false, List, ap, ◌∙◌}
use Rattle.dwarf_readers.specs.Stretch.{Stretch, whole}
use Rattle.dwarf_frame_rows.specs.SectionKind.{FrameSectionKind}
use Rattle.dwarf_frame_rows.specs.declared.base_addresses.BaseAddresses.{BaseAddresses}
use Rattle.dwarf_frame_rows.specs.FrameSection.{frame_section}
use Rattle.dwarf_frame_sections.specs.Sections.{FrameData, plain_data}

-- a section that is made of bytes is the section of these bytes
pub section-made : {R : Type 0} (stretch : R → Stretch) (kind : FrameSectionKind) (made : FrameData R) (bytes : List ℕ) (bases : BaseAddresses) → stretch made.reader ≡ whole false bytes → made ≡ plain_data made.reader
    → frame_section (2 ^ 64) kind made.address_size (stretch made.reader) bases ≡ frame_section (2 ^ 64) kind 8 (whole false bytes) bases
section-made stretch kind made bytes bases is plain =
    ap (λ (n : ℕ). frame_section (2 ^ 64) kind n (stretch made.reader) bases) (ap (λ d. d.address_size) plain)
    ∙ ap (λ (s : Stretch). frame_section (2 ^ 64) kind 8 s bases) is
