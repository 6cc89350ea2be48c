-- The step in a function of x86_64.
use Rattle.std.specs.Prelude.{ℕ, ◌-◌, ◌%◌, nat_eq, nat_lt, Bool, true, if◌then◌else◌, List, [], ◌∷◌, Option, Some, None, Ok, Err}
use Rattle.std.specs.List.{starts_with}
use Rattle.framehop_errors.specs.declared.compact.CompactUnwindInfoUnwinderError.TheVariants.{FunctionHasNoInfo, BadOpcodeKind}
use Rattle.framehop_errors.specs.declared.compact.CompactUnwindInfoUnwinderError.TheVariants as error
use Rattle.framehop_code_rules.specs.declared.CodeRules.{CodeRules}
use Rattle.framehop_code_rules.specs.declared.CodeRules.TheVariants.{Published, Known, Ways}
use Rattle.framehop_rules.specs.declared.x86_64.unwind_rule.UnwindRuleX86_64.{UnwindRuleX86_64}
use Rattle.framehop_rules.specs.declared.x86_64.unwind_rule.UnwindRuleX86_64.TheVariants.{JustReturn, OffsetSp, UseFramePointer}
use Rattle.framehop_analysis.specs.Epilogue.{IsEpilogueRule}
use Rattle.framehop_analysis.specs.Prologue.{IsPrologueRule}
use Rattle.framehop_analysis.proofs.Laws.{rule_at_x86_64}
use Rattle.framehop_compact_tables.specs.declared.function.Function.{Function}
use Rattle.framehop_compact.specs.Analysed.{IsKnownAt, analysed, found_or}
use Rattle.framehop_compact.specs.CompactMeanings.{CompactMeanings}
use Rattle.framehop_compact.specs.CompactResults.{CuiResult}
use Rattle.framehop_compact.specs.CompactRules.{immediate_rule, indirect_rule}
use Rattle.framehop_compact.specs.Opcodes.{opcode_of}
use Rattle.framehop_compact.specs.declared.cui_unwind_result.CuiUnwindResult.TheVariants.{ExecRule, NeedDwarf}
use Rattle.framehop_compact.specs.declared.x86_64.opcode.OpcodeX86_64.{OpcodeX86_64}
use Rattle.framehop_compact.specs.declared.x86_64.opcode.OpcodeX86_64.TheVariants.{Null, FrameBased, FramelessImmediate, FramelessIndirect, Dwarf, InvalidFrameless, UnrecognizedKind}

-- The rule in the body of a function.
abbrev pub body_rule : OpcodeX86_64 → Option (List ℕ) → CuiResult UnwindRuleX86_64
body_rule Null text = Err FunctionHasNoInfo
body_rule FrameBased text = Ok (ExecRule UseFramePointer)
body_rule (FramelessImmediate words after_bp) text = immediate_rule words after_bp
body_rule (FramelessIndirect offset adjust after_bp) text = indirect_rule text offset adjust after_bp
body_rule (Dwarf offset) text = Ok (NeedDwarf offset)
body_rule InvalidFrameless text = Err error.InvalidFrameless
body_rule (UnrecognizedKind kind) text = Err (BadOpcodeKind kind)

-- `push rbp`, `mov rbp, rsp`.
abbrev pub frame_setup : List ℕ
frame_setup = 0x55 ∷ 0x48 ∷ 0x89 ∷ 0xe5 ∷ []

-- The rule of a first frame in a function without info: by its frame pointer if the function begins by setting it up.
abbrev pub uninformed_rule : Option (List ℕ) → UnwindRuleX86_64
uninformed_rule None = JustReturn
uninformed_rule (Some text) = if starts_with nat_eq text frame_setup then UseFramePointer else JustReturn

-- The rule of a function where the machine code has none.
abbrev pub function_rule : OpcodeX86_64 → Bool → Option (List ℕ) → CuiResult UnwindRuleX86_64
function_rule Null true text = Ok (ExecRule (uninformed_rule text))
function_rule opcode is_first text = body_rule opcode text

-- The rule of the machine code at each offset of each function. Its type says which one it is: at most one is as wanted, and it is found
-- by trying all instructions.
pub rule_found : IsKnownAt IsPrologueRule IsEpilogueRule
rule_found = rule_at_x86_64

-- The step: by the machine code, or else by the function's encoding.
abbrev pub unwound : Function → Bool → ℕ → Option (List ℕ) → CuiResult UnwindRuleX86_64
unwound function is_first offset text =
    found_or (analysed (λ text offset. (rule_found text offset).0) is_first offset text) (function_rule (opcode_of function.opcode) is_first text)

-- Where the code that stubs share has pushed its word: after its `push r11`, which stands at 7. The original has it there already.
abbrev pub helper_has_pushed : CodeRules → ℕ
helper_has_pushed Known = 9
helper_has_pushed Ways = 9
helper_has_pushed Published = 7

-- The rule in `__stub_helper`. Linkers begin it with code that all stubs share: `lea r11`, `push r11`, a jump and a `nop`, of 7, 2, 6
-- and 1 bytes. Then come stubs of `push` and `jmp`, of 5 bytes each.
abbrev pub stub_helper_rule : CodeRules → ℕ → UnwindRuleX86_64
stub_helper_rule code_rules offset =
    if nat_lt offset (helper_has_pushed code_rules) then OffsetSp 2 else
    if nat_lt offset 16 then OffsetSp 3 else
    if nat_lt ((offset - 16) % 10) 5 then JustReturn else
    OffsetSp 2

-- What compact unwind info means.
abbrev pub compact_x86_64 : CompactMeanings UnwindRuleX86_64
compact_x86_64 = record { start_rule = JustReturn; stub_rule = JustReturn; helper_rule = stub_helper_rule; unwound = unwound }
