use Rattle.std.proofs.Common.{◌∙◌, Option, ap, sym}
use Rattle.std.specs.Option.{option_map}
use Rattle.framehop_analysis.specs.Epilogue.{IsEpilogueRule}
use Rattle.framehop_analysis.specs.Prologue.{IsPrologueRule}
use Rattle.framehop_rules.specs.declared.x86_64.unwind_rule.UnwindRuleX86_64.{UnwindRuleX86_64}
use Rattle.framehop_compact.specs.Analysed.{found_or, lent_bytes}
use Rattle.framehop_compact.specs.Opcodes.{opcode_of}
use Rattle.framehop_compact.specs.Unwound.{function_rule, rule_found}
use Rattle.framehop_compact.proofs.AnalysedRules.{analysed-is}
use Rattle.framehop_compact.proofs.ValidRules.{analysed-valid}
use Rattle.framehop_compact.proofs.x86_64.macho.ArchX86_64CompactUnwindInfoUnwinding.unwind_frame.Goals as goal

pub returns-in-Some-clause-step : goal.returns-in-Some-clause-step
returns-in-Some-clause-step c =
    let first = c.args.is_first_frame in
    let text = lent_bytes c.args.function_bytes in
    let known = analysed-is IsPrologueRule IsEpilogueRule rule_found first c.args.address_offset_within_function text c.analysed_rule.result c.analysed_rule.ensures in
    ap (λ (f : Option UnwindRuleX86_64). found_or f (function_rule (opcode_of c.args.function.opcode) first text)) (sym c.in-Some.is ∙ known)

pub returns-in-Some-clause-valid : goal.returns-in-Some-clause-valid
returns-in-Some-clause-valid c =
    analysed-valid c.args.is_first_frame c.args.address_offset_within_function (option_map (λ bytes. bytes.now) c.args.function_bytes) c.in-Some.rule c.in-Some.ensures

pub returns-clause-step : goal.returns-clause-step
returns-clause-step c =
    let first = c.args.is_first_frame in
    let text = lent_bytes c.args.function_bytes in
    let known = analysed-is IsPrologueRule IsEpilogueRule rule_found first c.args.address_offset_within_function text c.analysed_rule.result c.analysed_rule.ensures in
    c.function_rule.ensures ∙ ap (λ o. function_rule o first text) c.parse-opcode.ensures
    ∙ ap (λ (f : Option UnwindRuleX86_64). found_or f (function_rule (opcode_of c.args.function.opcode) first text)) (sym c.in_default.is ∙ known)
