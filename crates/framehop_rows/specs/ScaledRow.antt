-- The rows of x86_64 that an unwind rule says exactly. Registers are numbered as in the System V ABI for AMD64, figure 3.36.
use Rattle.std.specs.Prelude.{ℤ, pos, negsuc, ◌+ℤ◌, Bool, false, ◌&&◌, Option, Some, None, option_and_then, option_map, ◌==◌, if◌then◌else◌}
use Rattle.std.specs.Ordering.{int_eq}
use Rattle.dwarf_constants.specs.declared.common.Register.{Register}
use Rattle.framehop_rules.specs.declared.x86_64.unwind_rule.UnwindRuleX86_64.{UnwindRuleX86_64}
use Rattle.framehop_rules.specs.declared.x86_64.unwind_rule.UnwindRuleX86_64.TheVariants.{EndOfStack, OffsetSp, OffsetSpAndRestoreBp, UseFramePointer}
use Rattle.dwarf_frame_rows.specs.declared.rules.CfaRule.{CfaRule}
use Rattle.dwarf_frame_rows.specs.declared.rules.CfaRule.TheVariants.{RegisterAndOffset, Expression}
use Rattle.dwarf_frame_rows.specs.declared.rules.RegisterRule.{RegisterRule}
use Rattle.dwarf_frame_rows.specs.declared.rules.RegisterRule.TheVariants as rule
use Rattle.framehop_rows.specs.RuleFields.{as_words, as_signed_words}
use Rattle.dwarf_frame_parts.specs.declared.parts.Parts.{Parts}

-- the frame pointer
abbrev pub RBP : Register
RBP = record { 0 = 6 }

-- the stack pointer
abbrev pub RSP : Register
RSP = record { 0 = 7 }

-- the number of the return address
abbrev pub RA : Register
RA = record { 0 = 16 }

-- the register is stored at the CFA plus this offset
abbrev pub is_at : {T : Type 0} → ℤ → RegisterRule T → Bool
is_at offset (rule.Offset stored) = int_eq stored offset
is_at offset _ = false

-- the CFA is RSP plus an offset, and RBP stays
abbrev pub raised_sp : ℤ → Option UnwindRuleX86_64
raised_sp offset = option_map OffsetSp (as_words offset)

-- the CFA is RSP plus an offset, and RBP is stored at an offset from the CFA
abbrev pub restored_bp : ℤ → ℤ → Option UnwindRuleX86_64
restored_bp offset stored =
    option_and_then (λ x. option_map (OffsetSpAndRestoreBp x) (as_signed_words (offset +ℤ stored))) (as_words offset)

-- the CFA is RSP plus an offset: RBP stays if it has no rule, is undefined or the same, or it is stored
abbrev pub from_sp : {T : Type 0} → ℤ → Option (RegisterRule T) → Option UnwindRuleX86_64
from_sp offset None = raised_sp offset
from_sp offset (Some rule.Undefined) = raised_sp offset
from_sp offset (Some rule.SameValue) = raised_sp offset
from_sp offset (Some (rule.Offset stored)) = restored_bp offset stored
from_sp offset (Some _) = None

-- the CFA is RBP plus an offset: the caller's RBP lies at RBP, and the return address above it
abbrev pub from_bp : {T : Type 0} → ℤ → Option (RegisterRule T) → Option UnwindRuleX86_64
from_bp offset None = None
from_bp offset (Some stored) = if int_eq offset (pos 16) && is_at (negsuc 15) stored then Some UseFramePointer else None

-- the CFA is a register plus an offset
abbrev pub from_register : {T : Type 0} → Register → ℤ → Option (RegisterRule T) → Option UnwindRuleX86_64
from_register register offset bp =
    if register.0 == RSP.0 then from_sp offset bp
    else if register.0 == RBP.0 then from_bp offset bp
    else None

-- the rule by the CFA and RBP, if the return address is stored at the CFA less 8
abbrev pub from_cfa : {T : Type 0} → CfaRule T → Option (RegisterRule T) → Option UnwindRuleX86_64
from_cfa (RegisterAndOffset register offset) bp = from_register register offset bp
from_cfa (Expression expression) bp = None

-- the rule by the return address: it is stored at the CFA less 8; if it has no rule or is undefined, the stack ends
abbrev pub from_return_address : {T : Type 0} → CfaRule T → (bp ra : Option (RegisterRule T)) → Option UnwindRuleX86_64
from_return_address cfa bp None = Some EndOfStack
from_return_address cfa bp (Some rule.Undefined) = Some EndOfStack
from_return_address cfa bp (Some stored) = if is_at (negsuc 7) stored then from_cfa cfa bp else None

-- the rule that says the row exactly, if one does
abbrev pub scaled_rule : {T : Type 0} → Parts T → Option UnwindRuleX86_64
scaled_rule parts = from_return_address parts.cfa parts.fp parts.ra
