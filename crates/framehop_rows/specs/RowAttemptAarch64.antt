-- The attempt at a step by a row of call frames, on aarch64.
use Rattle.std.specs.Prelude.{ℕ, Bool, Option}
use Rattle.dwarf_constants.specs.declared.common.Vendor.TheVariants.{AArch64}
use Rattle.dwarf_readers.specs.Stretch.{Stretch}
use Rattle.dwarf_frame_rows.specs.Row.{Row}
use Rattle.framehop_registers.specs.declared.aarch64.unwindregs.UnwindRegsAarch64.{UnwindRegsAarch64}
use Rattle.framehop_rules.specs.declared.aarch64.unwind_rule.UnwindRuleAarch64.{UnwindRuleAarch64}
use Rattle.framehop_rules.specs.declared.aarch64.unwind_rule.UnwindRuleAarch64.TheVariants.{NoOpIfFirstFrameOtherwiseFp}
use Rattle.framehop_rows.specs.DirectRowAarch64.{direct_answer}
use Rattle.framehop_rows.specs.RowAttempt.{RowAttempt, attempt_by_parts, MeetsExpressionPart}
use Rattle.framehop_rows.specs.RowMeanings.{RowMeanings, row_meanings}
use Rattle.dwarf_frame_parts.specs.RowParts.{parts_of}
use Rattle.framehop_rows.specs.ScaledRowAarch64.{X29, X30, scaled_rule}

-- the attempt by a row
abbrev pub row_attempt : Bool → Option ℕ → ℕ → Stretch → Row ℕ → RowAttempt UnwindRuleAarch64 UnwindRegsAarch64
row_attempt first values address_size section row =
    attempt_by_parts scaled_rule direct_answer first values address_size section (parts_of X29 X30 row)

-- no rule says the row, and one of its parts is an expression
abbrev pub MeetsExpression : Row ℕ → Type 0
MeetsExpression row = MeetsExpressionPart scaled_rule (parts_of X29 X30 row)

-- what call frames mean: code that no row covers has the rule of a first frame without a frame of its own, or of the frame pointer; and
-- instructions of aarch64's own are read (DWARF for the Arm 64-bit Architecture, "Call frame instructions"): code that signs return
-- addresses has them
abbrev pub rows : RowMeanings UnwindRuleAarch64 UnwindRegsAarch64
rows = row_meanings row_attempt NoOpIfFirstFrameOtherwiseFp AArch64
