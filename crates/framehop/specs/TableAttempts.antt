-- Modules with a table of rules, beside those whose FDEs are found by an index.
use Rattle.std.specs.Prelude.{◌≡◌, ℕ, Bool, None, Some}
use Rattle.framehop_code_rules.specs.declared.CodeRules.{CodeRules}
use Rattle.framehop_loads.specs.declared.load_options.Rows.{Rows}
use Rattle.framehop_modules.specs.Sections.{Sections}
use Rattle.framehop.specs.Attempts.{FormatMeanings, attempt_by_format}
use Rattle.framehop_loads.specs.StepLimits.{StepLimits}
use Rattle.framehop_loads.specs.UnwindData.{unwind_data_with}
use Rattle.framehop_loads.specs.declared.load_options.FdeLookup.TheVariants.{Auto, Index}
use Rattle.framehop_loads.specs.declared.load_options.LoadOptions.{LoadOptions}
use Rattle.framehop_loads.specs.declared.load_options.TableArch.{TableArch}

-- by an index without a table
abbrev pub indexed : (beside : Bool) → CodeRules → Rows → LoadOptions
indexed beside code_rules rows =
    record { lookup = Index; tables = None; debug_frame_beside = beside; code_rules = code_rules; rows = rows }

-- with a table
abbrev pub tabulated : TableArch → (beside : Bool) → CodeRules → Rows → LoadOptions
tabulated arch beside code_rules rows =
    record { lookup = Auto; tables = Some arch; debug_frame_beside = beside; code_rules = code_rules; rows = rows }

-- The attempt by a module with a table is that by the module with an index, whatever its sections, at all addresses.
abbrev pub AllAttemptAsIndexed : {Rule Registers : Type 0} → FormatMeanings Rule Registers → Type 0
AllAttemptAsIndexed m =
    (limits : StepLimits) (arch : TableArch) (beside : Bool) (code_rules : CodeRules) (rows : Rows) (s : Sections) (relative : ℕ) (first : Bool)
    → attempt_by_format m limits (unwind_data_with (tabulated arch beside code_rules rows) s) relative first
    ≡ attempt_by_format m limits (unwind_data_with (indexed beside code_rules rows) s) relative first
