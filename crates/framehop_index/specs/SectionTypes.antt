-- Sections of call frames by their type.
use Rattle.std.specs.Prelude.{ℕ, List}
use Rattle.std.specs.Borrow.{Bor}
use Rattle.dwarf_frame_rows.specs.declared.base_addresses.BaseAddresses.{BaseAddresses}
use Rattle.dwarf_frame_rows.specs.FrameSection.{FrameSection}
use Rattle.framehop_index.specs.FrameSections.{eh_frame_of, debug_frame_of}
use Rattle.framehop_index.specs.declared.section_type.UnwindSectionType.{UnwindSectionType}
use Rattle.framehop_index.specs.declared.section_type.UnwindSectionType.TheVariants.{EhFrame, DebugFrame}

-- the section of this type and these bytes
abbrev pub section_of_type : BaseAddresses → UnwindSectionType (List ℕ) → FrameSection
section_of_type bases (EhFrame bytes) = eh_frame_of bases bytes
section_of_type bases (DebugFrame bytes) = debug_frame_of bases bytes

-- a section of call frames, by the bytes of what has them
abbrev pub frame_section_bytes : {D : Type 0} → (D → List ℕ) → UnwindSectionType D → UnwindSectionType (List ℕ)
frame_section_bytes content (EhFrame data_) = EhFrame (content data_)
frame_section_bytes content (DebugFrame data_) = DebugFrame (content data_)

-- the section of what is lent: its bytes, and the addresses that its pointers are relative to
abbrev pub frame_section_lent : Bor BaseAddresses → UnwindSectionType (Bor (List ℕ)) → FrameSection
frame_section_lent bases section = section_of_type bases.now (frame_section_bytes (λ b. b.now) section)
