use Rattle.std.proofs.Common.{◌≡◌, ◌∙◌, ℕ, true, List, Option, ap, refl, sym}
use Rattle.framehop_analysis.specs.LookBackAarch64.{IsEpilogueRule}
use Rattle.framehop_rules.specs.declared.aarch64.unwind_rule.UnwindRuleAarch64.{UnwindRuleAarch64}
use Rattle.framehop_compact.specs.Analysed.{analysed, found_or, lent_bytes}
use Rattle.framehop_compact.specs.OpcodesAarch64.{opcode_of}
use Rattle.framehop_compact.specs.UnwoundAarch64.{IsPrologueRuleAt, body_rule, rule_found, unwound_as}
use Rattle.framehop_compact.specs.declared.aarch64.opcode.OpcodeArm64.{OpcodeArm64}
use Rattle.framehop_compact.specs.declared.aarch64.opcode.OpcodeArm64.TheVariants.{Dwarf, FrameBased, Frameless, Null, UnrecognizedKind}
use Rattle.framehop_compact.proofs.AnalysedRules.{analysed-is}
use Rattle.framehop_compact.proofs.aarch64.macho.ArchAarch64CompactUnwindInfoUnwinding.unwind_frame.Goals as goal

-- a first frame in a function with info
informed : (opcode : OpcodeArm64) (offset : ℕ) (text : Option (List ℕ)) → (opcode ≡ Null → ⊥)
    → unwound_as opcode true offset text ≡ found_or (analysed (λ text offset. (rule_found text offset).0) true offset text) (body_rule opcode true)
informed Null offset text other = absurd (other refl)
informed (Frameless pairs) offset text other = refl
informed (Dwarf place) offset text other = refl
informed FrameBased offset text other = refl
informed (UnrecognizedKind kind) offset text other = refl

pub returns-in-Some-clause-step : goal.returns-in-Some-clause-step
returns-in-Some-clause-step c =
    let text = lent_bytes c.args.function_bytes in
    let opcode = opcode_of c.args.function.opcode in
    let offset = c.args.address_offset_within_function in
    let first : c.args.is_first_frame ≡ true = let f = c.if-not-is_first_frame.false in cc in
    let known = analysed-is IsPrologueRuleAt IsEpilogueRule rule_found true offset text c.analysed_rule.result c.analysed_rule.ensures in
    let other : opcode ≡ Null → ⊥ = λ null. let e = c.is_null.ensures.1 (c.parse-2.ensures ∙ null) in let f = c.if-is_null.false in cc in
    ap (λ (f : Option UnwindRuleAarch64). found_or f (body_rule opcode true)) (sym c.in-Some.is ∙ known) ∙ sym (informed opcode offset text other)
    ∙ ap (λ is_first. unwound_as opcode is_first offset text) (sym first)

pub returns-clause-step : goal.returns-clause-step
returns-clause-step c =
    let text = lent_bytes c.args.function_bytes in
    let opcode = opcode_of c.args.function.opcode in
    let offset = c.args.address_offset_within_function in
    let first : c.args.is_first_frame ≡ true = let f = c.if-not-is_first_frame.false in cc in
    let known = analysed-is IsPrologueRuleAt IsEpilogueRule rule_found true offset text c.analysed_rule.result c.analysed_rule.ensures in
    let other : opcode ≡ Null → ⊥ = λ null. let e = c.is_null.ensures.1 (c.parse-2.ensures ∙ null) in let f = c.if-is_null.false in cc in
    c.body_rule-2.ensures ∙ ap (λ o. body_rule o true) c.parse-3.ensures
    ∙ ap (λ (f : Option UnwindRuleAarch64). found_or f (body_rule opcode true)) (sym c.in_default.is ∙ known) ∙ sym (informed opcode offset text other)
    ∙ ap (λ is_first. unwound_as opcode is_first offset text) (sym first)
