-- How a module's data says to unwind a frame at an address.
use Rattle.std.specs.Prelude.{ℕ, ◌+◌, ◌^◌, Option, Result, Ok, Err, nat_lt, if◌then◌else◌}
use Rattle.dwarf_frame_entries.specs.Entries.{Fde, fde_from_offset}
use Rattle.dwarf_frame_rows.specs.FrameSection.{FrameSection}
use Rattle.framehop_errors.specs.declared.dwarf.DwarfUnwinderError.TheVariants.{LookupAddressOverflow}
use Rattle.framehop_errors.specs.declared.unwinder.UnwinderError.TheVariants.{Dwarf}
use Rattle.framehop_index.specs.FdeLookups.{FoundFde, PlacedFrames, fde_for, fde_read, section_of}
use Rattle.framehop_registers.specs.Callback.{Words}
use Rattle.framehop_rules.specs.Outcome.{Caller}

-- By a rule; by the row for an address of the FDE that is known for it in a section of call frames, or by none if it is known that
-- there is no such FDE; by codes that are run on the registers and the words of the stack; or by nothing, whatever the registers and
-- words.
pub data Method (Rule Registers : Type 0) : Type 0 where
  UsesRule : Rule → Method Rule Registers
  UsesFde : FrameSection → (address : ℕ) → (known : Option Fde) → Method Rule Registers
  UsesCodes : (Registers → Words → Option (Caller Registers)) → Method Rule Registers
  UsesNothing : Method Rule Registers

-- by what is known of the FDE for an address: by nothing if it isn't known which it is
abbrev pub method_found : {Rule Registers : Type 0} → FrameSection → (address : ℕ) → FoundFde → Method Rule Registers
method_found section address (Ok known) = UsesFde section address known
method_found section address (Err e) = UsesNothing

-- by a section with the lookup of its FDEs, at a relative address
abbrev pub method_by_frames : {Rule Registers : Type 0} → PlacedFrames → (relative : ℕ) → Method Rule Registers
method_by_frames frames relative = method_found (section_of frames) (frames.base_svma + relative) (fde_for frames relative)

-- the FDE at an offset of a section, if an address that is relative to a base has 64 bits
abbrev pub fde_at_offset : FrameSection → (base relative offset : ℕ) → FoundFde
fde_at_offset section base relative offset =
    if nat_lt (base + relative) (2 ^ 64) then fde_read (fde_from_offset section offset) else Err (Dwarf LookupAddressOverflow)

-- by it
abbrev pub method_at_offset : {Rule Registers : Type 0} → FrameSection → (base relative offset : ℕ) → Method Rule Registers
method_at_offset section base relative offset = method_found section (base + relative) (fde_at_offset section base relative offset)
