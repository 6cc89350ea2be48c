-- Modules that are unwound by `.eh_frame` and `.debug_frame`, beside those that are unwound by one of the two.
use Rattle.std.specs.Prelude.{◌≡◌, ◌⊎◌, ℕ, Bool, true, false, List, Option, Some, codes}
use Rattle.framehop_modules.specs.Chosen.{base_svmas, chosen_sections}
use Rattle.framehop_modules.specs.Sections.{Sections}
use Rattle.framehop_modules.specs.declared.module_sections.ModuleSections.TheVariants.{EhFrame}
use Rattle.framehop.specs.Attempts.{FormatMeanings, attempt_by_format}
use Rattle.framehop_loads.specs.StepLimits.{StepLimits}
use Rattle.framehop_loads.specs.CallFrames.{alone}
use Rattle.framehop_loads.specs.LoadOptions.{as_original}
use Rattle.framehop_loads.specs.UnwindData.{UnwindData, CallFrames, bases_of, both_data_of, debug_frames, frames_with, unwind_data_of}
use Rattle.framehop_index.specs.FdeLookups.{PlacedFrames, covers}
use Rattle.framehop_index.specs.declared.section_type.UnwindSectionType.TheVariants as section

-- A module is unwound by `.eh_frame`, and has a `.debug_frame` too.
pub record HasBoth (s : Sections) : Type 0 where
  pub eh_frame : List ℕ
  pub eh_frame_hdr : Option (List ℕ)
  pub debug_frame : List ℕ
  pub chosen : chosen_sections s ≡ EhFrame eh_frame eh_frame_hdr
  pub beside : s.section_data (codes ".debug_frame") ≡ Some debug_frame

-- the module isn't unwound by `.eh_frame`, or has no `.debug_frame` beside it
abbrev pub HasOne : Sections → Type 0
HasOne s = (HasBoth s → ⊥)

-- its `.eh_frame`, with the lookup of FDEs
abbrev pub eh_frames : {s : Sections} → HasBoth s → PlacedFrames
eh_frames {s} has = frames_with as_original (bases_of (base_svmas s)) s.base_svma (section.EhFrame has.eh_frame) has.eh_frame_hdr

-- its `.debug_frame`
abbrev pub frames_beside : {s : Sections} → HasBoth s → PlacedFrames
frames_beside {s} has = debug_frames as_original (bases_of (base_svmas s)) s.base_svma has.debug_frame

-- the unwind data of the module if it is unwound by a section alone
abbrev pub data_by : Sections → PlacedFrames → UnwindData
data_by s frames = record (unwind_data_of s) { format = CallFrames (alone frames) }

-- The attempt by both sections at a relative address is that by `.debug_frame` alone, if the address is in the FDE found there, and not in
-- that of `.eh_frame`. Else it is that of the module by `.eh_frame` alone.
pub record AttemptsByOne {Rule Registers : Type 0} (m : FormatMeanings Rule Registers) (limits : StepLimits) {s : Sections} (has : HasBoth s)
    (relative : ℕ) (first : Bool) : Type 0 where
  pub by_debug_frame : covers (eh_frames has) relative ≡ false → covers (frames_beside has) relative ≡ true
      → attempt_by_format m limits (both_data_of s) relative first ≡ attempt_by_format m limits (data_by s (frames_beside has)) relative first
  pub by_eh_frame : (covers (eh_frames has) relative ≡ true) ⊎ (covers (frames_beside has) relative ≡ false)
      → attempt_by_format m limits (both_data_of s) relative first ≡ attempt_by_format m limits (unwind_data_of s) relative first

-- So it is for each module that has both, at all addresses, in first and in later frames.
abbrev pub AllAttemptByOne : {Rule Registers : Type 0} → FormatMeanings Rule Registers → Type 0
AllAttemptByOne m =
    (limits : StepLimits) (s : Sections) (has : HasBoth s) (relative : ℕ) (first : Bool) → AttemptsByOne m limits has relative first
