-- A section that is listed, of a document or of a file, and how it is listed.
use Rattle.std.specs.Prelude.{ℕ, ◌^◌, List, Option, Some, None, false}
use Rattle.dwarf_constants.specs.declared.common.Vendor.{Vendor}
use Rattle.dwarf_constants.specs.declared.common.Vendor.TheVariants as vendor
use Rattle.dwarf_readers.specs.Stretch.{whole}
use Rattle.dwarf_frame_rows.specs.Effects.{limits_of}
use Rattle.dwarf_frame_rows.specs.FrameSection.{FrameSection, frame_section}
use Rattle.dwarf_frame_rows.specs.SectionKind.{FrameSectionKind}
use Rattle.dwarf_frame_rows.specs.declared.base_addresses.BaseAddresses.{BaseAddresses}
use Rattle.dwarf_frame_sections.specs.Sections.{debug_frame, eh_frame}
use Rattle.frame_table.specs.Document.{Stated}
use Rattle.frame_table.specs.Entries.{Setting}
use Rattle.frame_table_files.specs.Bases.{no_bases}
use Rattle.frame_table_files.specs.declared.section_name.SectionName.{SectionName}
use Rattle.frame_table_files.specs.declared.section_name.SectionName.TheVariants.{EhFrame, DebugFrame}
use Rattle.frame_table.specs.declared.names.Machine.{Machine}
use Rattle.frame_table.specs.declared.names.Machine.TheVariants.{X86_64, AArch64}

-- a section: its name, its machine, if that is known, what its pointers are relative to, the size of an address if no CIE states it,
-- and its bytes
pub record Located : Type 0 where
  pub name : SectionName
  pub machine : Option Machine
  pub bases : BaseAddresses
  pub address_size : ℕ
  pub bytes : List ℕ

-- pointers are relative to the start of the section, and to nothing else
abbrev pub bases_from : ℕ → BaseAddresses
bases_from start = record { eh_frame_hdr = no_bases; eh_frame = record no_bases { section = Some start } }

-- the section that a document states
abbrev pub located_in : Stated → Located
located_in s =
    record { name = s.name; machine = s.machine; bases = bases_from s.start; address_size = s.address_size; bytes = s.bytes }

-- the kind of a section
abbrev pub section_kind : SectionName → FrameSectionKind
section_kind EhFrame = eh_frame
section_kind DebugFrame = debug_frame

-- whose instructions are read
abbrev pub vendor_of : Option Machine → Vendor
vendor_of (Some AArch64) = vendor.AArch64
vendor_of (Some X86_64) = vendor.Default
vendor_of None = vendor.Default

-- the section, as its entries are read: the low byte of a number comes first
abbrev pub section_located : Located → FrameSection
section_located s = frame_section (2 ^ 64) (section_kind s.name) s.address_size (whole false s.bytes) s.bases

-- how it is listed: rows have room for the rules of 192 registers, and there is room for 4 rows
abbrev pub setting_of : Located → Setting
setting_of s = record {
  section = section_located s;
  vendor = vendor_of s.machine;
  machine = s.machine;
  limits = limits_of (Some 192) (Some 4);
}
