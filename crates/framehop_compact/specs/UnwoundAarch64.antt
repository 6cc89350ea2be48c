-- The step in a function of aarch64.
use Rattle.std.specs.Prelude.{ℕ, ◌==◌, nat_lt, Bool, true, false, if◌then◌else◌, List, take, drop, Option, Ok, Err}
use Rattle.framehop_errors.specs.declared.compact.CompactUnwindInfoUnwinderError.TheVariants.{FunctionHasNoInfo, CallerCannotBeFrameless, BadOpcodeKind}
use Rattle.framehop_rules.specs.declared.aarch64.unwind_rule.UnwindRuleAarch64.{UnwindRuleAarch64}
use Rattle.framehop_rules.specs.declared.aarch64.unwind_rule.UnwindRuleAarch64.TheVariants.{NoOp, OffsetSp, UseFramePointer}
use Rattle.framehop_analysis.specs.LookBackAarch64.{IsEpilogueRule}
use Rattle.framehop_analysis.specs.PrologueAarch64.{IsPrologueRule}
use Rattle.framehop_analysis.proofs.Laws.{rule_at_aarch64}
use Rattle.framehop_compact_tables.specs.declared.function.Function.{Function}
use Rattle.framehop_compact.specs.Analysed.{IsKnownAt, analysed, found_or}
use Rattle.framehop_compact.specs.CompactMeanings.{CompactMeanings}
use Rattle.framehop_compact.specs.CompactResults.{CuiResult}
use Rattle.framehop_compact.specs.OpcodesAarch64.{opcode_of}
use Rattle.framehop_compact.specs.declared.cui_unwind_result.CuiUnwindResult.TheVariants.{ExecRule, NeedDwarf}
use Rattle.framehop_compact.specs.declared.aarch64.opcode.OpcodeArm64.{OpcodeArm64}
use Rattle.framehop_compact.specs.declared.aarch64.opcode.OpcodeArm64.TheVariants.{Null, Frameless, Dwarf, FrameBased, UnrecognizedKind}

-- The rule of a function without a frame record, whose stack has so many pairs of words. It calls no other function.
abbrev pub frameless_rule : ℕ → Bool → CuiResult UnwindRuleAarch64
frameless_rule pairs true = Ok (ExecRule (if pairs == 0 then NoOp else OffsetSp pairs))
frameless_rule pairs false = Err CallerCannotBeFrameless

-- The rule in the body of a function.
abbrev pub body_rule : OpcodeArm64 → Bool → CuiResult UnwindRuleAarch64
body_rule Null is_first = Err FunctionHasNoInfo
body_rule (Frameless pairs) is_first = frameless_rule pairs is_first
body_rule (Dwarf offset) is_first = Ok (NeedDwarf offset)
body_rule FrameBased is_first = Ok (ExecRule UseFramePointer)
body_rule (UnrecognizedKind kind) is_first = Err (BadOpcodeKind kind)

-- The rules of prologues that are at an offset of a function.
abbrev pub IsPrologueRuleAt : List ℕ → ℕ → UnwindRuleAarch64 → Type 0
IsPrologueRuleAt text offset = IsPrologueRule (take offset text) (drop offset text)

-- The rule of the machine code at each offset of each function. Its type says which one it is: at most one is as wanted, and it is found
-- by trying all instructions.
pub rule_found : IsKnownAt IsPrologueRuleAt IsEpilogueRule
rule_found = rule_at_aarch64

-- The step by the machine code, or else by what the encoding says. A function without info is a leaf in a first frame, whatever its
-- code.
abbrev pub unwound_as : OpcodeArm64 → Bool → ℕ → Option (List ℕ) → CuiResult UnwindRuleAarch64
unwound_as Null true offset text = Ok (ExecRule NoOp)
unwound_as opcode is_first offset text = found_or (analysed (λ text offset. (rule_found text offset).0) is_first offset text) (body_rule opcode is_first)

-- The same, by the function's encoding.
abbrev pub unwound : Function → Bool → ℕ → Option (List ℕ) → CuiResult UnwindRuleAarch64
unwound function is_first offset text = unwound_as (opcode_of function.opcode) is_first offset text

-- The rule in `__stub_helper`. Linkers begin it with 24 bytes of code that all stubs share, which pushes x16 and x17 with its third
-- instruction. Then come stubs, which push nothing.
abbrev pub stub_helper_rule : ℕ → UnwindRuleAarch64
stub_helper_rule offset = if nat_lt offset 12 then NoOp else if nat_lt offset 24 then OffsetSp 1 else NoOp

-- What compact unwind info means. The helper's rule is that of the original.
abbrev pub compact_aarch64 : CompactMeanings UnwindRuleAarch64
compact_aarch64 = record { start_rule = NoOp; stub_rule = NoOp; helper_rule = λ code_rules. stub_helper_rule; unwound = unwound }
