-- The effects that a CIE's own instructions may have here.
use Rattle.std.proofs.Common.{◌∷◌, refl}
use Rattle.std.specs.FinMap.{empty}
use Rattle.dwarf_frame_rows.specs.declared.effect.Effect.TheVariants.{Cfa, Rule, Nothing}
use Rattle.dwarf_frame_instructions.specs.StateViews.{effect_as, rule_as}
use Rattle.dwarf_frame_parts.proofs.PartsLaws.{keeps-cfa, rules-fit}
use Rattle.dwarf_frame_parts.proofs.PartsSteps.{sets-to}
use Rattle.dwarf_frame_parts.proofs.left.set_by.Goals as goal

pub returns-in-Ok-Cfa : goal.returns-in-Ok-Cfa
returns-in-Ok-Cfa g c = λ is.
    let number = g.T.ReaderOffset.value in
    sets-to c.args.columns number c.args.factors.now c.args.instruction c.args.row.now c.set_cfa.new.self c.in-Ok-Cfa.field-0 c.in-Ok-Cfa.ensures (Cfa c.in-Ok-Cfa.rule) c.in-Ok-Cfa.field-0-is refl (λ executed. refl) (λ executed. refl)
    (λ limits executed room keeps. refl) (c.set_cfa.ensures is c.args.columns)

pub returns-in-Some : goal.returns-in-Some
returns-in-Some g c = λ is.
    let number = g.T.ReaderOffset.value in
    let rule = Rule c.in-Ok-Rule.register c.in-Ok-Rule.rule in
    sets-to c.args.columns number c.args.factors.now c.args.instruction c.args.row.now c.set_rule.new.self c.in-Ok-Rule.field-0 c.in-Ok-Rule.ensures rule c.in-Ok-Rule.field-0-is refl (λ executed. refl) (λ executed. refl)
    (λ limits executed room keeps. rules-fit c.args.columns limits room empty c.in-Ok-Rule.register.0 (effect_as number rule ∷ executed) c.set_rule.new.self keeps)
    (c.set_rule.ensures is (rule_as number c.in-Ok-Rule.rule) c.in-Some.ensures)

pub returns-in-None : goal.returns-in-None
returns-in-None g c = λ is.
    let number = g.T.ReaderOffset.value in
    let rule = Rule c.in-Ok-Rule.register c.in-Ok-Rule.rule in
    sets-to c.args.columns number c.args.factors.now c.args.instruction c.args.row.now c.pass_rule.new.self c.in-Ok-Rule.field-0 c.in-Ok-Rule.ensures rule c.in-Ok-Rule.field-0-is refl (λ executed. refl) (λ executed. refl)
    (λ limits executed room keeps. rules-fit c.args.columns limits room empty c.in-Ok-Rule.register.0 (effect_as number rule ∷ executed) c.pass_rule.new.self keeps)
    (c.pass_rule.ensures is (rule_as number c.in-Ok-Rule.rule))

pub returns-in-Ok-Nothing : goal.returns-in-Ok-Nothing
returns-in-Ok-Nothing g c = λ is.
    let number = g.T.ReaderOffset.value in
    let old = c.args.row.now in
    sets-to c.args.columns number c.args.factors.now c.args.instruction old old c.in-Ok-Nothing.field-0 c.in-Ok-Nothing.ensures Nothing c.in-Ok-Nothing.field-0-is refl (λ executed. refl) (λ executed. refl)
    (λ limits executed room keeps. refl) (λ initial left keeps. keeps-cfa c.args.columns old old initial Nothing left (λ q. refl) refl keeps.cfa refl refl refl keeps)
