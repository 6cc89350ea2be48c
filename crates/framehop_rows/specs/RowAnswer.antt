-- The caller that a row gives in whole numbers, if none of its parts is an expression (DWARF 5, 6.4.1), on x86_64.
use Rattle.std.specs.Prelude.{ℕ, Option, Some, None, option_and_then, option_map, unwrap_or, ◌==◌, if◌then◌else◌}
use Rattle.dwarf_constants.specs.declared.common.Register.{Register}
use Rattle.framehop_registers.specs.Callback.{Words}
use Rattle.framehop_rules.specs.Outcome.{Caller}
use Rattle.framehop_registers.specs.Registers.{ip_of, sp_of, bp_of}
use Rattle.framehop_rules.specs.RuleMeaning.{caller_registers}
use Rattle.framehop_registers.specs.declared.x86_64.unwindregs.UnwindRegsX86_64.{UnwindRegsX86_64}
use Rattle.dwarf_frame_rows.specs.declared.rules.RegisterRule.{RegisterRule}
use Rattle.framehop_rows.specs.Columns.{cfa_by, column_by}
use Rattle.framehop_rows.specs.RowSources.{whole_sources}
use Rattle.framehop_rows.specs.ScaledRow.{RBP, RSP, RA}
use Rattle.dwarf_frame_parts.specs.declared.parts.Parts.{Parts}

-- the registers that have values in a frame
abbrev pub register_value : UnwindRegsX86_64 → Register → Option ℕ
register_value registers register =
    if register.0 == RA.0 then Some (ip_of registers)
    else if register.0 == RSP.0 then Some (sp_of registers)
    else if register.0 == RBP.0 then Some (bp_of registers)
    else None

-- the caller by its CFA and return address: the CFA is its stack pointer; RBP is what its rule gives, or stays
abbrev pub caller_from : UnwindRegsX86_64 → Words → Option (RegisterRule ℕ) → ℕ → ℕ → Caller UnwindRegsX86_64
caller_from registers words bp cfa return_address = record {
  return_address = return_address;
  registers = caller_registers registers return_address cfa
      (unwrap_or (option_and_then (column_by (whole_sources (register_value registers)) words cfa (bp_of registers)) bp) (bp_of registers));
}

-- the caller by its CFA, if its return address has a value
abbrev pub caller_at : UnwindRegsX86_64 → Words → Parts ℕ → ℕ → Option (Caller UnwindRegsX86_64)
caller_at registers words parts cfa =
    option_map (caller_from registers words parts.fp cfa)
    (option_and_then (column_by (whole_sources (register_value registers)) words cfa (ip_of registers)) parts.ra)

-- the caller, if the CFA and the return address have values
abbrev pub row_answer : UnwindRegsX86_64 → Words → Parts ℕ → Option (Caller UnwindRegsX86_64)
row_answer registers words parts = option_and_then (caller_at registers words parts) (cfa_by (whole_sources (register_value registers)) parts.cfa)
