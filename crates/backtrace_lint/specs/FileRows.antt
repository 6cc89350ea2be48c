-- What is found in the rows of a file's section, by its machine.
use Rattle.std.specs.Prelude.{ℕ, List, Option, Some}
use Rattle.dwarf_frame_rows.specs.Effects.{Limits, limits_of}
use Rattle.dwarf_frame_rows.specs.FrameSection.{FrameSection}
use Rattle.dwarf_frame_rows.specs.Row.{Row}
use Rattle.elf_files.specs.declared.header.Machine.{Machine}
use Rattle.elf_files.specs.declared.header.Machine.TheVariants.{X86_64, Aarch64}
use Rattle.framehop_rows.specs.RowAttemptAarch64 as arm
use Rattle.framehop_rows.specs.RowAttemptX86_64 as x86
use Rattle.dwarf_frame_parts.specs.RowParts.{parts_of}
use Rattle.framehop_rows.specs.ScaledRow.{RA, RBP}
use Rattle.framehop_rows.specs.ScaledRow as scaled_x86
use Rattle.framehop_rows.specs.ScaledRowAarch64.{X29, X30}
use Rattle.framehop_rows.specs.ScaledRowAarch64 as scaled_arm
use Rattle.framehop_rules.specs.declared.aarch64.unwind_rule.UnwindRuleAarch64.{UnwindRuleAarch64}
use Rattle.framehop_rules.specs.declared.x86_64.unwind_rule.UnwindRuleX86_64.{UnwindRuleX86_64}
use Rattle.backtrace_lint.specs.declared.row_lines.FailedFde.{FailedFde}
use Rattle.backtrace_lint.specs.RowFindings.{failed_fdes, unsaid_rows}

-- the room that an unwinder has for rows: 192 rules in each, and 4 that are remembered
abbrev pub row_limits : Limits
row_limits = limits_of (Some 192) (Some 4)

-- the rule of x86_64 that says a row exactly, if one does
abbrev pub rule_x86_64 : Row ℕ → Option UnwindRuleX86_64
rule_x86_64 row = scaled_x86.scaled_rule (parts_of RBP RA row)

-- .. the rule of aarch64
abbrev pub rule_aarch64 : Row ℕ → Option UnwindRuleAarch64
rule_aarch64 row = scaled_arm.scaled_rule (parts_of X29 X30 row)

-- where the rows of a section start that no rule of the machine says
abbrev pub unsaid_on : Machine → FrameSection → List ℕ
unsaid_on X86_64 section = unsaid_rows row_limits x86.rows.vendor rule_x86_64 section
unsaid_on Aarch64 section = unsaid_rows row_limits arm.rows.vendor rule_aarch64 section

-- the FDEs of a section whose rows end with an error
abbrev pub failed_on : Machine → FrameSection → List FailedFde
failed_on X86_64 section = failed_fdes row_limits x86.rows.vendor rule_x86_64 section
failed_on Aarch64 section = failed_fdes row_limits arm.rows.vendor rule_aarch64 section
