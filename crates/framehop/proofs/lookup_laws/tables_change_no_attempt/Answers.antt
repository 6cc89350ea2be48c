use Rattle.std.proofs.Common.{◌≡◌, ℕ, Bool, Option, List, refl}
use Rattle.framehop_code_rules.specs.declared.CodeRules.{CodeRules}
use Rattle.framehop_loads.specs.declared.load_options.Rows.{Rows}
use Rattle.framehop_modules.specs.Chosen.{base_svmas, chosen_sections}
use Rattle.framehop_modules.specs.Sections.{Sections}
use Rattle.framehop_modules.specs.declared.module_sections.ModuleSections.{ModuleSections}
use Rattle.framehop_modules.specs.declared.module_sections.ModuleSections.TheVariants.{CompactUnwindInfoAndEhFrame, PeUnwindInfo, EhFrame, DebugFrame, NoSections}
use Rattle.framehop.specs.Attempts.{FormatMeanings, attempt_by_format}
use Rattle.framehop_loads.specs.StepLimits.{StepLimits}
use Rattle.framehop.specs.TableAttempts.{indexed, tabulated}
use Rattle.framehop_loads.specs.UnwindData.{UnwindData, bases_of, code_by, debug_frame_of, format_with, text_of, unwind_data_of}
use Rattle.framehop_loads.specs.declared.load_options.LoadOptions.{LoadOptions}
use Rattle.framehop_loads.specs.declared.load_options.TableArch.{TableArch}
use Rattle.framehop.proofs.lookup_laws.tables_change_no_attempt.Goals as goal

module _ {Rule Registers : Type 0} (m : FormatMeanings Rule Registers) (limits : StepLimits) (arch : TableArch) (beside : Bool) (code_rules : CodeRules) (rows : Rows) (s : Sections) (relative : ℕ) (first : Bool) where
  -- the data with these sections, by what is asked for
  abbrev given : LoadOptions → Option (List ℕ) → ModuleSections (List ℕ) → UnwindData
  given options debug_frame chosen =
      let format = format_with options (bases_of (base_svmas s)) s.base_svma debug_frame chosen in
      record (unwind_data_of s) { format = format; code = code_by options.code_rules format (text_of s.base_svma s); rows = rows }

  pub as-indexed : (debug_frame : Option (List ℕ)) (chosen : ModuleSections (List ℕ))
      → attempt_by_format m limits (given (tabulated arch beside code_rules rows) debug_frame chosen) relative first ≡ attempt_by_format m limits (given (indexed beside code_rules rows) debug_frame chosen) relative first
  as-indexed debug_frame (CompactUnwindInfoAndEhFrame unwind_info eh_frame stubs stub_helper text) = refl
  as-indexed debug_frame (PeUnwindInfo pdata rdata xdata text) = refl
  as-indexed debug_frame (EhFrame eh_frame header) = refl
  as-indexed debug_frame (DebugFrame bytes) = refl
  as-indexed debug_frame NoSections = refl

pub returns : goal.returns
returns g c m limits arch beside code_rules rows s relative first =
    as-indexed m limits arch beside code_rules rows s relative first (debug_frame_of (indexed beside code_rules rows) s) (chosen_sections s)
