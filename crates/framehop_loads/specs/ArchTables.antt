-- Tables of the rules that a module's call frames say, as contracts see them.
use Rattle.std.specs.Prelude.{◌≡◌, ℕ, Option, IfSome}
use Rattle.dwarf_frame_rows.specs.FrameSection.{FrameSection}
use Rattle.dwarf_frame_rows.specs.Row.{Row}
use Rattle.framehop_rows.specs.RowAttemptAarch64 as aarch64_rows
use Rattle.framehop_rows.specs.RowAttemptX86_64 as x86_64_rows
use Rattle.framehop_rows.specs.RowMeanings.{RowMeanings}
use Rattle.dwarf_frame_parts.specs.RowParts.{parts_of}
use Rattle.framehop_rows.specs.ScaledRow as x86_64
use Rattle.framehop_rows.specs.ScaledRowAarch64 as aarch64
use Rattle.framehop_ranges.specs.Changes.{ChangesSo}
use Rattle.framehop_rules.specs.declared.aarch64.unwind_rule.UnwindRuleAarch64.{UnwindRuleAarch64}
use Rattle.framehop_rules.specs.declared.x86_64.unwind_rule.UnwindRuleX86_64.{UnwindRuleX86_64}
use Rattle.framehop_tables.specs.Covered.{Tabulated, covered_at, tabulated}
use Rattle.framehop_tables.specs.RuleTables.{IsTableOf}
use Rattle.framehop_tables.specs.declared.covered.Covered.{Covered}
use Rattle.framehop_loads.specs.StepLimits.{row_limits}
use Rattle.framehop_index.specs.FdeLookups.{ByIndex, PlacedFrames, section_of}
use Rattle.framehop_loads.specs.declared.load_options.TableArch.{TableArch}
use Rattle.framehop_loads.specs.declared.load_options.TableArch.TheVariants as arch
use Rattle.framehop_loads.specs.declared.tabulation.ArchRuleTable.{ArchRuleTable}
use Rattle.framehop_loads.specs.declared.tabulation.ArchRuleTable.TheVariants.{X86_64, Aarch64}

-- the architecture of a table
abbrev pub arch_of : ArchRuleTable → TableArch
arch_of (X86_64 table) = arch.X86_64
arch_of (Aarch64 table) = arch.Aarch64

-- a section with its base on x86_64, with the room for rows that policies set
abbrev pub on_x86_64 : (base : ℕ) → FrameSection → Tabulated UnwindRuleX86_64
on_x86_64 = tabulated x86_64_rows.rows (λ row. x86_64.scaled_rule (parts_of x86_64.RBP x86_64.RA row)) row_limits x86_64_rows.rows.vendor

-- .. on aarch64
abbrev pub on_aarch64 : (base : ℕ) → FrameSection → Tabulated UnwindRuleAarch64
on_aarch64 = tabulated aarch64_rows.rows (λ row. aarch64.scaled_rule (parts_of aarch64.X29 aarch64.X30 row)) row_limits aarch64_rows.rows.vendor

-- The table says of each relative address what the index of this section says on the table's architecture.
abbrev pub IsArchTableOf : ArchRuleTable → (base : ℕ) → FrameSection → Type 0
IsArchTableOf (X86_64 table) base section = IsTableOf on_x86_64 table base section
IsArchTableOf (Aarch64 table) base section = IsTableOf on_aarch64 table base section

-- At so many relative addresses the index of a section says something else than at the address before, on an architecture.
abbrev pub ChangesOn : TableArch → (base : ℕ) → FrameSection → (count : ℕ) → Type 0
ChangesOn arch.X86_64 base section count = ChangesSo (covered_at (on_x86_64 base section)) count
ChangesOn arch.Aarch64 base section count = ChangesSo (covered_at (on_aarch64 base section)) count

-- .. as the index of a table's section does on the table's architecture
abbrev pub CountsChangesOn : ArchRuleTable → (count : ℕ) → Type 0
CountsChangesOn table count =
    (base : ℕ) (section : FrameSection) → IsArchTableOf table base section → ChangesOn (arch_of table) base section count

-- What a look-up of a relative address gave is what the index of the table's section says on an architecture.
abbrev pub SaysAsIndexOn : {Rule Registers : Type 0} → RowMeanings Rule Registers → (Row ℕ → Option Rule) → ArchRuleTable → (relative : ℕ)
    → Covered Rule → Type 0
SaysAsIndexOn m rule_of table relative covered =
    (base : ℕ) (section : FrameSection) → IsArchTableOf table base section
    → covered ≡ covered_at (tabulated m rule_of row_limits m.vendor base section) relative

-- What is said of a relative address is what the index of a section says, and FDEs of the section are found by an index.
pub record SaysAsIndexOf {Rule Registers : Type 0} (m : RowMeanings Rule Registers) (rule_of : Row ℕ → Option Rule) (main : PlacedFrames)
    (relative : ℕ) (covered : Covered Rule) : Type 0 where
  pub by_index : main.lookup ≡ ByIndex
  pub says : covered ≡ covered_at (tabulated m rule_of row_limits m.vendor main.base_svma (section_of main)) relative

-- A table is one of what the index of a section says, and FDEs of the section are found by an index.
pub record IsTableFor (main : PlacedFrames) (table : ArchRuleTable) : Type 0 where
  pub by_index : main.lookup ≡ ByIndex
  pub says : IsArchTableOf table main.base_svma (section_of main)

-- .. if there is a table
abbrev pub IsTabulatedFor : PlacedFrames → Option ArchRuleTable → Type 0
IsTabulatedFor main table = IfSome table (IsTableFor main)
