-- The caller that a row gives in whole numbers, if none of its parts is an expression (DWARF 5, 6.4.1), on aarch64.
use Rattle.std.specs.Prelude.{ℕ, Option, Some, None, option_and_then, option_map, unwrap_or, ◌==◌, if◌then◌else◌}
use Rattle.dwarf_constants.specs.declared.common.Register.{Register}
use Rattle.dwarf_frame_rows.specs.declared.rules.RegisterRule.{RegisterRule}
use Rattle.framehop_registers.specs.Callback.{Words}
use Rattle.framehop_registers.specs.RegistersAarch64.{stripped_address, mask_of, lr_of, sp_of, fp_of}
use Rattle.framehop_registers.specs.declared.aarch64.unwindregs.UnwindRegsAarch64.{UnwindRegsAarch64}
use Rattle.framehop_rules.specs.Outcome.{Caller}
use Rattle.framehop_rules.specs.RuleMeaningAarch64.{caller_registers}
use Rattle.framehop_rows.specs.Columns.{cfa_by, column_by}
use Rattle.framehop_rows.specs.RowSources.{whole_sources}
use Rattle.framehop_rows.specs.ScaledRowAarch64.{X29, X30, SP}
use Rattle.dwarf_frame_parts.specs.declared.parts.Parts.{Parts}

-- the registers that have values in a frame
abbrev pub register_value : UnwindRegsAarch64 → Register → Option ℕ
register_value registers register =
    if register.0 == SP.0 then Some (sp_of registers)
    else if register.0 == X29.0 then Some (fp_of registers)
    else if register.0 == X30.0 then Some (lr_of registers)
    else None

-- the caller with these registers: its return address is its link register without the authentication code
abbrev pub caller_with : UnwindRegsAarch64 → (lr sp fp : ℕ) → Caller UnwindRegsAarch64
caller_with registers lr sp fp = record {
  return_address = stripped_address (mask_of registers) lr;
  registers = caller_registers registers (lr, sp, fp);
}

-- what a register rule gives at a CFA, or else the register's value in the frame
abbrev pub given_or_kept : UnwindRegsAarch64 → Words → (cfa own : ℕ) → Option (RegisterRule ℕ) → ℕ
given_or_kept registers words cfa own column =
    unwrap_or (option_and_then (column_by (whole_sources (register_value registers)) words cfa own) column) own

-- the caller by its CFA: the CFA is its stack pointer; X29 and X30 are what their rules give, or stay
abbrev pub caller_at : UnwindRegsAarch64 → Words → Parts ℕ → ℕ → Caller UnwindRegsAarch64
caller_at registers words parts cfa =
    caller_with registers (given_or_kept registers words cfa (lr_of registers) parts.ra) cfa
    (given_or_kept registers words cfa (fp_of registers) parts.fp)

-- the caller, if the CFA has a value
abbrev pub row_answer : UnwindRegsAarch64 → Words → Parts ℕ → Option (Caller UnwindRegsAarch64)
row_answer registers words parts =
    option_map (caller_at registers words parts) (cfa_by (whole_sources (register_value registers)) parts.cfa)
