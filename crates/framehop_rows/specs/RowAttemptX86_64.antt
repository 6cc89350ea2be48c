-- The attempt at a step by a row of call frames, on x86_64.
use Rattle.std.specs.Prelude.{ℕ, Bool, Option}
use Rattle.dwarf_constants.specs.declared.common.Vendor.TheVariants.{Default}
use Rattle.dwarf_readers.specs.Stretch.{Stretch}
use Rattle.dwarf_frame_rows.specs.Row.{Row}
use Rattle.framehop_registers.specs.declared.x86_64.unwindregs.UnwindRegsX86_64.{UnwindRegsX86_64}
use Rattle.framehop_rules.specs.declared.x86_64.unwind_rule.UnwindRuleX86_64.{UnwindRuleX86_64}
use Rattle.framehop_rules.specs.declared.x86_64.unwind_rule.UnwindRuleX86_64.TheVariants.{JustReturnIfFirstFrameOtherwiseFp}
use Rattle.framehop_rows.specs.DirectRow.{direct_answer}
use Rattle.framehop_rows.specs.RowAttempt.{RowAttempt, attempt_by_parts, MeetsExpressionPart}
use Rattle.framehop_rows.specs.RowMeanings.{RowMeanings, row_meanings}
use Rattle.dwarf_frame_parts.specs.RowParts.{parts_of}
use Rattle.framehop_rows.specs.ScaledRow.{RBP, RA, scaled_rule}

-- the attempt by a row
abbrev pub row_attempt : Bool → Option ℕ → ℕ → Stretch → Row ℕ → RowAttempt UnwindRuleX86_64 UnwindRegsX86_64
row_attempt first values address_size section row =
    attempt_by_parts scaled_rule direct_answer first values address_size section (parts_of RBP RA row)

-- no rule says the row, and one of its parts is an expression
abbrev pub MeetsExpression : Row ℕ → Type 0
MeetsExpression row = MeetsExpressionPart scaled_rule (parts_of RBP RA row)

-- what call frames mean: code that no row covers has the rule of a first frame without a frame of its own, or of the frame pointer; no
-- vendor's extensions are read
abbrev pub rows : RowMeanings UnwindRuleX86_64 UnwindRegsX86_64
rows = row_meanings row_attempt JustReturnIfFirstFrameOtherwiseFp Default
