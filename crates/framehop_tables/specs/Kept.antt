-- What tables keep in eight bytes, and what is said by it.
use Rattle.std.specs.Prelude.{◌≡◌, refl}
use Rattle.framehop_rules.specs.declared.aarch64.unwind_rule.UnwindRuleAarch64.{UnwindRuleAarch64}
use Rattle.framehop_rules.specs.declared.aarch64.unwind_rule.UnwindRuleAarch64.TheVariants as rule_aarch64
use Rattle.framehop_rules.specs.declared.x86_64.unwind_rule.UnwindRuleX86_64.{UnwindRuleX86_64}
use Rattle.framehop_rules.specs.declared.x86_64.unwind_rule.UnwindRuleX86_64.TheVariants as rule_x86_64
use Rattle.framehop_tables.specs.declared.covered.Covered.{Covered}
use Rattle.framehop_tables.specs.declared.covered.Covered.TheVariants.{Nothing, Says, Evaluates}
use Rattle.framehop_tables.specs.declared.kept.KeptAarch64.{KeptAarch64}
use Rattle.framehop_tables.specs.declared.kept.KeptAarch64.TheVariants as kept_aarch64
use Rattle.framehop_tables.specs.declared.kept.KeptX86_64.{KeptX86_64}
use Rattle.framehop_tables.specs.declared.kept.KeptX86_64.TheVariants as kept_x86_64

-- ---- x86_64

-- what is said by what is kept
abbrev pub covered_by_x86_64 : KeptX86_64 → Covered UnwindRuleX86_64
covered_by_x86_64 kept_x86_64.Nothing = Nothing
covered_by_x86_64 (kept_x86_64.Evaluates offset) = Evaluates offset
covered_by_x86_64 kept_x86_64.EndOfStack = Says rule_x86_64.EndOfStack
covered_by_x86_64 kept_x86_64.JustReturn = Says rule_x86_64.JustReturn
covered_by_x86_64 kept_x86_64.JustReturnIfFirstFrameOtherwiseFp = Says rule_x86_64.JustReturnIfFirstFrameOtherwiseFp
covered_by_x86_64 (kept_x86_64.OffsetSp x) = Says (rule_x86_64.OffsetSp x)
covered_by_x86_64 (kept_x86_64.OffsetSpAndRestoreBp x y) = Says (rule_x86_64.OffsetSpAndRestoreBp x y)
covered_by_x86_64 kept_x86_64.UseFramePointer = Says rule_x86_64.UseFramePointer
covered_by_x86_64 (kept_x86_64.OffsetSpAndPopRegisters x y z) = Says (rule_x86_64.OffsetSpAndPopRegisters x y z)

-- what is kept of a rule
abbrev pub kept_rule_x86_64 : UnwindRuleX86_64 → KeptX86_64
kept_rule_x86_64 rule_x86_64.EndOfStack = kept_x86_64.EndOfStack
kept_rule_x86_64 rule_x86_64.JustReturn = kept_x86_64.JustReturn
kept_rule_x86_64 rule_x86_64.JustReturnIfFirstFrameOtherwiseFp = kept_x86_64.JustReturnIfFirstFrameOtherwiseFp
kept_rule_x86_64 (rule_x86_64.OffsetSp x) = kept_x86_64.OffsetSp x
kept_rule_x86_64 (rule_x86_64.OffsetSpAndRestoreBp x y) = kept_x86_64.OffsetSpAndRestoreBp x y
kept_rule_x86_64 rule_x86_64.UseFramePointer = kept_x86_64.UseFramePointer
kept_rule_x86_64 (rule_x86_64.OffsetSpAndPopRegisters x y z) = kept_x86_64.OffsetSpAndPopRegisters x y z

-- what is kept of what is said
abbrev pub kept_of_x86_64 : Covered UnwindRuleX86_64 → KeptX86_64
kept_of_x86_64 Nothing = kept_x86_64.Nothing
kept_of_x86_64 (Says rule) = kept_rule_x86_64 rule
kept_of_x86_64 (Evaluates offset) = kept_x86_64.Evaluates offset

-- what is kept has no more than what is said
pub no_more_x86_64 : (kept : KeptX86_64) → kept_of_x86_64 (covered_by_x86_64 kept) ≡ kept
no_more_x86_64 kept_x86_64.Nothing = refl
no_more_x86_64 (kept_x86_64.Evaluates offset) = refl
no_more_x86_64 kept_x86_64.EndOfStack = refl
no_more_x86_64 kept_x86_64.JustReturn = refl
no_more_x86_64 kept_x86_64.JustReturnIfFirstFrameOtherwiseFp = refl
no_more_x86_64 (kept_x86_64.OffsetSp x) = refl
no_more_x86_64 (kept_x86_64.OffsetSpAndRestoreBp x y) = refl
no_more_x86_64 kept_x86_64.UseFramePointer = refl
no_more_x86_64 (kept_x86_64.OffsetSpAndPopRegisters x y z) = refl

-- ---- aarch64

-- what is said by what is kept
abbrev pub covered_by_aarch64 : KeptAarch64 → Covered UnwindRuleAarch64
covered_by_aarch64 kept_aarch64.Nothing = Nothing
covered_by_aarch64 (kept_aarch64.Evaluates offset) = Evaluates offset
covered_by_aarch64 kept_aarch64.NoOp = Says rule_aarch64.NoOp
covered_by_aarch64 kept_aarch64.NoOpIfFirstFrameOtherwiseFp = Says rule_aarch64.NoOpIfFirstFrameOtherwiseFp
covered_by_aarch64 (kept_aarch64.OffsetSp x) = Says (rule_aarch64.OffsetSp x)
covered_by_aarch64 (kept_aarch64.OffsetSpIfFirstFrameOtherwiseStackEndsHere x) = Says (rule_aarch64.OffsetSpIfFirstFrameOtherwiseStackEndsHere x)
covered_by_aarch64 (kept_aarch64.OffsetSpAndRestoreLr x y) = Says (rule_aarch64.OffsetSpAndRestoreLr x y)
covered_by_aarch64 (kept_aarch64.OffsetSpAndRestoreFpAndLr x y z) = Says (rule_aarch64.OffsetSpAndRestoreFpAndLr x y z)
covered_by_aarch64 kept_aarch64.UseFramePointer = Says rule_aarch64.UseFramePointer
covered_by_aarch64 (kept_aarch64.UseFramepointerWithOffsets x y z) = Says (rule_aarch64.UseFramepointerWithOffsets x y z)

-- what is kept of a rule
abbrev pub kept_rule_aarch64 : UnwindRuleAarch64 → KeptAarch64
kept_rule_aarch64 rule_aarch64.NoOp = kept_aarch64.NoOp
kept_rule_aarch64 rule_aarch64.NoOpIfFirstFrameOtherwiseFp = kept_aarch64.NoOpIfFirstFrameOtherwiseFp
kept_rule_aarch64 (rule_aarch64.OffsetSp x) = kept_aarch64.OffsetSp x
kept_rule_aarch64 (rule_aarch64.OffsetSpIfFirstFrameOtherwiseStackEndsHere x) = kept_aarch64.OffsetSpIfFirstFrameOtherwiseStackEndsHere x
kept_rule_aarch64 (rule_aarch64.OffsetSpAndRestoreLr x y) = kept_aarch64.OffsetSpAndRestoreLr x y
kept_rule_aarch64 (rule_aarch64.OffsetSpAndRestoreFpAndLr x y z) = kept_aarch64.OffsetSpAndRestoreFpAndLr x y z
kept_rule_aarch64 rule_aarch64.UseFramePointer = kept_aarch64.UseFramePointer
kept_rule_aarch64 (rule_aarch64.UseFramepointerWithOffsets x y z) = kept_aarch64.UseFramepointerWithOffsets x y z

-- what is kept of what is said
abbrev pub kept_of_aarch64 : Covered UnwindRuleAarch64 → KeptAarch64
kept_of_aarch64 Nothing = kept_aarch64.Nothing
kept_of_aarch64 (Says rule) = kept_rule_aarch64 rule
kept_of_aarch64 (Evaluates offset) = kept_aarch64.Evaluates offset

-- what is kept has no more than what is said
pub no_more_aarch64 : (kept : KeptAarch64) → kept_of_aarch64 (covered_by_aarch64 kept) ≡ kept
no_more_aarch64 kept_aarch64.Nothing = refl
no_more_aarch64 (kept_aarch64.Evaluates offset) = refl
no_more_aarch64 kept_aarch64.NoOp = refl
no_more_aarch64 kept_aarch64.NoOpIfFirstFrameOtherwiseFp = refl
no_more_aarch64 (kept_aarch64.OffsetSp x) = refl
no_more_aarch64 (kept_aarch64.OffsetSpIfFirstFrameOtherwiseStackEndsHere x) = refl
no_more_aarch64 (kept_aarch64.OffsetSpAndRestoreLr x y) = refl
no_more_aarch64 (kept_aarch64.OffsetSpAndRestoreFpAndLr x y z) = refl
no_more_aarch64 kept_aarch64.UseFramePointer = refl
no_more_aarch64 (kept_aarch64.UseFramepointerWithOffsets x y z) = refl
