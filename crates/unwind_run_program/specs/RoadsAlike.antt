-- When a step writes the same line by each lookup.
use Rattle.std.specs.Prelude.{◌≡◌, ℕ, List, [], ◌∷◌, ◌++◌, codes, true}
use Rattle.std.specs.List.{Contains}
use Rattle.dwarf_frame_entries.specs.Entries.{Fde, contains}
use Rattle.dwarf_frame_entries.specs.SectionFdes.{whole_fdes}
use Rattle.dwarf_frame_rows.specs.declared.base_addresses.BaseAddresses.{BaseAddresses}
use Rattle.framehop_loads.specs.StepLimits.{StepLimits}
use Rattle.framehop_index.specs.FrameSections.{eh_frame_of}
use Rattle.framehop.specs.TruthfulLookups.{AreTruthful, HeadedSection}
use Rattle.framehop_loads.specs.UnwindData.{UnwindData, bases_of}
use Rattle.framehop_loads.specs.declared.load_options.TableArch.{TableArch}
use Rattle.framehop_modules.specs.Chosen.{base_svmas}
use Rattle.framehop_unwinder.specs.Attempt.{Meanings}
use Rattle.framehop_unwinder.specs.Frames.{lookup_address}
use Rattle.unwind_run_document.specs.Tasks.{RoadSteps, TableData}
use Rattle.unwind_run_program.specs.Registers.{RegisterForms}
use Rattle.unwind_run_program.specs.Roads.{headed_section, stated_section}
use Rattle.unwind_run_program.specs.Sections.{data_stated, scanning, sections_stated}
use Rattle.unwind_run_program.specs.Text.{frame_at, road_line, road_lines}

-- the addresses that pointers are relative to in a module with both tables
abbrev pub bases_in : TableData → BaseAddresses
bases_in t = bases_of (base_svmas (sections_stated t.base_svma (headed_section t) []))

-- the section and its header, as both tables state them
abbrev pub headed_in : TableData → HeadedSection
headed_in t = record { section = t.section; header = t.header; bases = bases_in t; base = t.base_svma }

-- The header is truthful, and one of the section's FDEs contains an address.
pub record Covers (t : TableData) (address : ℕ) : Type 0 where
  pub truthful : AreTruthful (headed_in t)
  pub fde : Fde
  pub listed : Contains (whole_fdes (eh_frame_of (bases_in t) t.section)) fde
  pub contained : contains address fde ≡ true

-- one line after the name of each lookup
abbrev pub named_alike : List ℕ → List ℕ
named_alike text = codes "header " ++ text ++ codes "index " ++ text ++ codes "scan " ++ text

-- the address that a step looks up
abbrev pub address_looked_up : RoadSteps → ℕ
address_looked_up steps = lookup_address (frame_at steps.kind steps.address)

-- The header is truthful, and one of the section's FDEs contains the address that a step looks up.
abbrev pub CoversStep : RoadSteps → Type 0
CoversStep steps = Covers steps.tables (address_looked_up steps)

-- the line of the step that reads the section
abbrev pub scan_line : {Rule Registers : Type 0} → Meanings UnwindData Rule Registers → RegisterForms Registers → TableArch → RoadSteps → List ℕ
scan_line m forms arch steps = road_line m forms steps (data_stated arch scanning steps.tables.base_svma (stated_section steps.tables ∷ []) [])

-- Within any limits, each lookup writes the line of the step that reads the section.
abbrev pub WriteAlike : {Rule Registers : Type 0} → (StepLimits → Meanings UnwindData Rule Registers) → RoadSteps → Type 0
WriteAlike {Registers} meanings steps =
    (limits : StepLimits) (forms : RegisterForms Registers) (arch : TableArch)
    → road_lines (meanings limits) forms (data_stated arch) steps ≡ named_alike (scan_line (meanings limits) forms arch steps)

-- each step from an address that is covered so
abbrev pub SameLines : {Rule Registers : Type 0} → (StepLimits → Meanings UnwindData Rule Registers) → Type 0
SameLines meanings = (steps : RoadSteps) → CoversStep steps → WriteAlike meanings steps
