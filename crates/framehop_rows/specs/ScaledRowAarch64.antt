-- The rows of aarch64 that an unwind rule says exactly. Registers are numbered as in DWARF for the Arm 64-bit Architecture, 4.1.
use Rattle.std.specs.Prelude.{ℤ, pos, negsuc, ◌+ℤ◌, ◌&&◌, Option, Some, None, option_and_then, option_map, ◌==◌, if◌then◌else◌}
use Rattle.std.specs.Ordering.{int_eq}
use Rattle.dwarf_constants.specs.declared.common.Register.{Register}
use Rattle.dwarf_frame_rows.specs.declared.rules.CfaRule.{CfaRule}
use Rattle.dwarf_frame_rows.specs.declared.rules.CfaRule.TheVariants.{RegisterAndOffset, Expression}
use Rattle.dwarf_frame_rows.specs.declared.rules.RegisterRule.{RegisterRule}
use Rattle.dwarf_frame_rows.specs.declared.rules.RegisterRule.TheVariants as rule
use Rattle.framehop_rules.specs.declared.aarch64.unwind_rule.UnwindRuleAarch64.{UnwindRuleAarch64}
use Rattle.framehop_rules.specs.declared.aarch64.unwind_rule.UnwindRuleAarch64.TheVariants.{OffsetSp, OffsetSpIfFirstFrameOtherwiseStackEndsHere, OffsetSpAndRestoreLr, OffsetSpAndRestoreFpAndLr, UseFramePointer, UseFramepointerWithOffsets}
use Rattle.framehop_rows.specs.RuleFields.{as_words, as_signed_words, pairs_of}
use Rattle.framehop_rows.specs.declared.aarch64.dwarf.Saved.{Saved}
use Rattle.framehop_rows.specs.declared.aarch64.dwarf.Saved.TheVariants.{InRegister, FromCfa}
use Rattle.dwarf_frame_parts.specs.declared.parts.Parts.{Parts}

-- the frame pointer
abbrev pub X29 : Register
X29 = record { 0 = 29 }

-- the link register
abbrev pub X30 : Register
X30 = record { 0 = 30 }

-- the stack pointer
abbrev pub SP : Register
SP = record { 0 = 31 }

-- where a register of the caller is by its rule: in the register, if it has no rule, is undefined or the same; or stored at an offset
-- from the CFA; by any other rule at neither
abbrev pub saved_by : {T : Type 0} → Option (RegisterRule T) → Option Saved
saved_by None = Some InRegister
saved_by (Some rule.Undefined) = Some InRegister
saved_by (Some rule.SameValue) = Some InRegister
saved_by (Some (rule.Offset offset)) = Some (FromCfa offset)
saved_by (Some _) = None

-- the CFA is SP plus an offset, and X29 and X30 stay; if X30 is undefined, the stack ends in a later frame
abbrev pub raised_sp : {T : Type 0} → ℤ → Option (RegisterRule T) → Option UnwindRuleAarch64
raised_sp offset (Some rule.Undefined) = option_map OffsetSpIfFirstFrameOtherwiseStackEndsHere (pairs_of offset)
raised_sp offset _ = option_map OffsetSp (pairs_of offset)

-- the CFA is SP plus an offset, X29 stays, and X30 is stored at an offset from the CFA
abbrev pub restored_lr : ℤ → ℤ → Option UnwindRuleAarch64
restored_lr offset lr =
    option_and_then (λ x. option_map (OffsetSpAndRestoreLr x) (as_signed_words (offset +ℤ lr))) (pairs_of offset)

-- the CFA is SP plus an offset, and X29 and X30 are stored at offsets from it
abbrev pub restored_both : (offset fp lr : ℤ) → Option UnwindRuleAarch64
restored_both offset fp lr =
    option_and_then (λ x. option_and_then (λ y.
    option_map (OffsetSpAndRestoreFpAndLr x y) (as_signed_words (offset +ℤ lr)))
    (as_signed_words (offset +ℤ fp))) (pairs_of offset)

-- the CFA is SP plus an offset; `column` is the rule of X30
abbrev pub from_sp : {T : Type 0} → ℤ → Option (RegisterRule T) → (fp lr : Saved) → Option UnwindRuleAarch64
from_sp offset column InRegister InRegister = raised_sp offset column
from_sp offset column InRegister (FromCfa lr) = restored_lr offset lr
from_sp offset column (FromCfa fp) (FromCfa lr) = restored_both offset fp lr
from_sp offset column (FromCfa fp) InRegister = None

-- the CFA is X29 plus an offset, and X29 and X30 are stored at offsets from it
abbrev pub restored_from_fp : (offset fp lr : ℤ) → Option UnwindRuleAarch64
restored_from_fp offset fp lr =
    option_and_then (λ x. option_and_then (λ y.
    option_map (UseFramepointerWithOffsets x y) (as_signed_words (offset +ℤ lr)))
    (as_signed_words (offset +ℤ fp))) (as_words offset)

-- the CFA is X29 plus an offset, and X29 and X30 are stored; there is a rule of its own if X29 points to the pair, and the CFA is
-- above it
abbrev pub followed_fp : (offset fp lr : ℤ) → Option UnwindRuleAarch64
followed_fp offset fp lr =
    if int_eq offset (pos 16) && (int_eq fp (negsuc 15) && int_eq lr (negsuc 7)) then Some UseFramePointer
    else restored_from_fp offset fp lr

-- the CFA is X29 plus an offset: X29 and X30 have to be stored
abbrev pub from_fp : ℤ → (fp lr : Saved) → Option UnwindRuleAarch64
from_fp offset (FromCfa fp) (FromCfa lr) = followed_fp offset fp lr
from_fp offset _ _ = None

-- the CFA is a register plus an offset
abbrev pub from_register : {T : Type 0} → Register → ℤ → Option (RegisterRule T) → (fp lr : Saved) → Option UnwindRuleAarch64
from_register register offset column fp lr =
    if register.0 == SP.0 then from_sp offset column fp lr
    else if register.0 == X29.0 then from_fp offset fp lr
    else None

-- the CFA, and where X29 and X30 are
abbrev pub from_cfa : {T : Type 0} → CfaRule T → Option (RegisterRule T) → (fp lr : Saved) → Option UnwindRuleAarch64
from_cfa (RegisterAndOffset register offset) column fp lr = from_register register offset column fp lr
from_cfa (Expression expression) column fp lr = None

-- the rule that says the row exactly, if one does
abbrev pub scaled_rule : {T : Type 0} → Parts T → Option UnwindRuleAarch64
scaled_rule parts =
    option_and_then (λ fp. option_and_then (λ lr. from_cfa parts.cfa parts.ra fp lr) (saved_by parts.ra)) (saved_by parts.fp)
