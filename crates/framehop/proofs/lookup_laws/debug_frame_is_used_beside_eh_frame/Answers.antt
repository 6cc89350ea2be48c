use Rattle.std.proofs.Common.{◌≡◌, ℕ, Bool, true, false, Option, Some, None, List, refl, sym, ap, ◌∙◌, ◌⊎◌}
use Rattle.std.specs.Prelude.{codes}
use Rattle.dwarf_frame_rows.specs.declared.base_addresses.BaseAddresses.{BaseAddresses}
use Rattle.framehop_index.specs.FdeLookups.{PlacedFrames, covers}
use Rattle.framehop_modules.specs.Chosen.{base_svmas, chosen_sections}
use Rattle.framehop_modules.specs.Sections.{Sections}
use Rattle.framehop_modules.specs.declared.module_sections.ModuleSections.{ModuleSections}
use Rattle.framehop_modules.specs.declared.module_sections.ModuleSections.TheVariants.{CompactUnwindInfoAndEhFrame, PeUnwindInfo, EhFrame, DebugFrame, NoSections}
use Rattle.framehop.specs.Attempts.{FormatMeanings, attempt_by_format}
use Rattle.framehop_loads.specs.StepLimits.{StepLimits}
use Rattle.framehop.specs.BothSections.{HasBoth, data_by, eh_frames, frames_beside}
use Rattle.framehop_loads.specs.CallFrames.{frames_for}
use Rattle.framehop_loads.specs.LoadOptions.{as_original, with_both}
use Rattle.framehop_loads.specs.UnwindData.{ModuleFormat, UnwindData, CallFrames, bases_of, both_data_of, format_with, unwind_data_of}
use Rattle.framehop.proofs.FramesUsed.{used-main, used-other}
use Rattle.framehop.proofs.lookup_laws.debug_frame_is_used_beside_eh_frame.Goals as goal

module _ {Rule Registers : Type 0} (m : FormatMeanings Rule Registers) (limits : StepLimits) {s : Sections} (has : HasBoth s) (relative : ℕ) (first : Bool) where
  abbrev by_format : ModuleFormat → UnwindData
  by_format format = record (unwind_data_of s) { format = format }

  abbrev bases : BaseAddresses
  bases = bases_of (base_svmas s)

  -- both are in its format
  both-is : both_data_of s ≡ by_format (CallFrames (record { main = eh_frames has; table = None; beside = Some (frames_beside has) }))
  both-is =
      ap (λ (o : Option (List ℕ)). by_format (format_with with_both bases s.base_svma o (chosen_sections s))) has.beside
      ∙ ap (λ (c : ModuleSections (List ℕ)). by_format (format_with with_both bases s.base_svma (Some has.debug_frame) c)) has.chosen

  -- one alone is that of the module without the other
  eh-is : unwind_data_of s ≡ data_by s (eh_frames has)
  eh-is = ap (λ (c : ModuleSections (List ℕ)). by_format (format_with as_original bases s.base_svma None c)) has.chosen

  -- the attempt is that by the section that is used
  by-used : (frames : PlacedFrames) → frames_for (eh_frames has) (frames_beside has) relative ≡ frames
      → attempt_by_format m limits (both_data_of s) relative first ≡ attempt_by_format m limits (data_by s frames) relative first
  by-used frames is =
      ap (λ (given : UnwindData). attempt_by_format m limits given relative first) both-is
      ∙ ap (λ (f : PlacedFrames). attempt_by_format m limits (data_by s f) relative first) is

  pub by-debug_frame : covers (eh_frames has) relative ≡ false → covers (frames_beside has) relative ≡ true
      → attempt_by_format m limits (both_data_of s) relative first ≡ attempt_by_format m limits (data_by s (frames_beside has)) relative first
  by-debug_frame away here = by-used (frames_beside has) (used-other (eh_frames has) (frames_beside has) relative away here)

  pub by-eh_frame : (covers (eh_frames has) relative ≡ true) ⊎ (covers (frames_beside has) relative ≡ false)
      → attempt_by_format m limits (both_data_of s) relative first ≡ attempt_by_format m limits (unwind_data_of s) relative first
  by-eh_frame h =
      by-used (eh_frames has) (used-main (eh_frames has) (frames_beside has) relative h)
      ∙ ap (λ (given : UnwindData). attempt_by_format m limits given relative first) (sym eh-is)

pub returns-clause-both : goal.returns-clause-both
returns-clause-both g c m limits s has relative first = record { by_debug_frame = by-debug_frame m limits has relative first; by_eh_frame = by-eh_frame m limits has relative first }

-- a module that hasn't both
only-one : (s : Sections) (at : BaseAddresses) (debug_frame : Option (List ℕ)) (chosen : ModuleSections (List ℕ)) → s.section_data (codes ".debug_frame") ≡ debug_frame → chosen_sections s ≡ chosen → (HasBoth s → ⊥)
    → format_with with_both at s.base_svma debug_frame chosen ≡ format_with as_original at s.base_svma None chosen
only-one s at debug_frame (CompactUnwindInfoAndEhFrame unwind_info eh_frame stubs stub_helper text) beside is none = refl
only-one s at debug_frame (PeUnwindInfo pdata rdata xdata text) beside is none = refl
only-one s at None (EhFrame eh_frame header) beside is none = refl
only-one s at (Some bytes) (EhFrame eh_frame header) beside is none = absurd (none (record { eh_frame = eh_frame; eh_frame_hdr = header; debug_frame = bytes; chosen = is; beside = beside }))
only-one s at debug_frame (DebugFrame bytes) beside is none = refl
only-one s at debug_frame NoSections beside is none = refl

pub returns-clause-one : goal.returns-clause-one
returns-clause-one g c s none =
    ap (λ (f : ModuleFormat). record (unwind_data_of s) { format = f }) (only-one s (bases_of (base_svmas s)) (s.section_data (codes ".debug_frame")) (chosen_sections s) refl refl none)
