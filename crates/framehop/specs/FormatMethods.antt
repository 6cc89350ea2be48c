-- How a module's data says to unwind a frame, by its format.
use Rattle.std.specs.Prelude.{ℕ, List, Bool, Option, Some, None, Ok, Err}
use Rattle.dwarf_frame_rows.specs.declared.base_addresses.BaseAddresses.{BaseAddresses}
use Rattle.framehop_compact.specs.CompactFiles.{CompactFile}
use Rattle.framehop_compact.specs.CompactResults.{CuiResult}
use Rattle.framehop_compact.specs.declared.cui_unwind_result.CuiUnwindResult.TheVariants.{ExecRule, NeedDwarf}
use Rattle.framehop_pe_codes.specs.Sections.{PeFile}
use Rattle.framehop_index.specs.SectionTypes.{section_of_type}
use Rattle.framehop_index.specs.declared.section_type.UnwindSectionType.TheVariants as section
use Rattle.framehop_loads.specs.CallFrames.{frames_used}
use Rattle.framehop_loads.specs.UnwindData.{ModuleFormat, UnwindData, CallFrames, Pe, Compact, NoFormat}
use Rattle.framehop.specs.Methods.{Method, UsesNothing, UsesRule, method_at_offset, method_by_frames}

-- How the unwind data of a PE file say to unwind a frame at a relative address, a first or a later one.
abbrev pub PeMethods : Type 0 → Type 0 → Type 0
PeMethods Rule Registers = PeFile → (relative : ℕ) → Bool → Method Rule Registers

-- How tables other than those of call frames say so: the unwind data of PE files, and compact unwind info.
pub record TableMethods (Rule Registers : Type 0) : Type 0 where
  pub pe : PeMethods Rule Registers
  pub compact : CompactFile → (relative : ℕ) → Bool → CuiResult Rule

-- by the FDE at an offset of `__eh_frame`, if there is that section
abbrev pub method_in : {Rule Registers : Type 0} → BaseAddresses → (base relative : ℕ) → Option (List ℕ) → (offset : ℕ) → Method Rule Registers
method_in bases base relative (Some bytes) offset = method_at_offset (section_of_type bases (section.EhFrame bytes)) base relative offset
method_in bases base relative None offset = UsesNothing

-- by what compact unwind info says, or by nothing if it is refused
abbrev pub method_by_compact : {Rule Registers : Type 0} → BaseAddresses → (base relative : ℕ) → (eh_frame : Option (List ℕ)) → CuiResult Rule
    → Method Rule Registers
method_by_compact bases base relative eh_frame (Ok (ExecRule rule)) = UsesRule rule
method_by_compact bases base relative eh_frame (Ok (NeedDwarf offset)) = method_in bases base relative eh_frame offset
method_by_compact bases base relative eh_frame (Err refusal) = UsesNothing

-- how a format says to unwind a frame at a relative address
abbrev pub method_by_format : {Rule Registers : Type 0} → TableMethods Rule Registers → BaseAddresses → (base relative : ℕ) → Bool → ModuleFormat
    → Method Rule Registers
method_by_format tables bases base relative first (CallFrames frames) = method_by_frames (frames_used frames relative) relative
method_by_format tables bases base relative first (Pe file) = tables.pe file relative first
method_by_format tables bases base relative first (Compact file eh_frame) =
    method_by_compact bases base relative eh_frame (tables.compact file relative first)
method_by_format tables bases base relative first NoFormat = UsesNothing

-- how a module's data says to unwind a frame, a first or a later one, at a relative address
abbrev pub method_of : {Rule Registers : Type 0} → TableMethods Rule Registers → UnwindData → (relative : ℕ) → Bool → Method Rule Registers
method_of tables given relative first = method_by_format tables given.bases given.base_svma relative first given.format
