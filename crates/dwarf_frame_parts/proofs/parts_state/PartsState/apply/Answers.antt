-- Effects that write to the row need what is known of the parts that are kept.
use Rattle.std.proofs.Common.{◌∷◌, refl, sym}
use Rattle.dwarf_frame_rows.specs.declared.effect.Effect.TheVariants.{Cfa, CfaOffset, CfaRegister, NegateRaState, RestoreRule, Rule}
use Rattle.dwarf_frame_instructions.specs.StateViews.{rule_as}
use Rattle.dwarf_frame_instructions.specs.Survivors.{survivors}
use Rattle.dwarf_frame_parts.proofs.PartsLaws.{keeps-negated, no-expression, rules-fit}
use Rattle.dwarf_frame_parts.proofs.PartsSteps.{applies-to, needs-offset, needs-turn}
use Rattle.dwarf_frame_parts.proofs.parts_state.PartsState.apply.Goals as goal

pub returns-in-Cfa : goal.returns-in-Cfa
returns-in-Cfa g c = λ is limits initial executed room follows.
    let number = g.T.ReaderOffset.value in
    applies-to c.args.columns number initial c.args.self.now (record c.args.self.now { current = c.set_cfa.new.self }) executed follows refl refl (Cfa c.in-Cfa.rule) refl refl
    c.args.effect limits (sym c.in-Cfa.is) refl (c.set_cfa.ensures is c.args.columns initial (survivors 0 executed) follows.current)

pub returns-in-CfaRegister : goal.returns-in-CfaRegister
returns-in-CfaRegister g c = λ is limits initial executed room follows.
    let number = g.T.ReaderOffset.value in
    applies-to c.args.columns number initial c.args.self.now (record c.args.self.now { current = c.set_cfa_register.new.self }) executed follows refl refl (CfaRegister c.in-CfaRegister.register) refl refl
    c.args.effect limits (sym c.in-CfaRegister.is)
    (needs-offset executed (no-expression c.args.columns initial c.args.self.now.current (survivors 0 executed) follows.current))
    (c.set_cfa_register.ensures c.args.columns initial (survivors 0 executed) follows.current)

pub returns-in-CfaOffset : goal.returns-in-CfaOffset
returns-in-CfaOffset g c = λ is limits initial executed room follows.
    let number = g.T.ReaderOffset.value in
    applies-to c.args.columns number initial c.args.self.now (record c.args.self.now { current = c.set_cfa_offset.new.self }) executed follows refl refl (CfaOffset c.in-CfaOffset.field-0) refl refl
    c.args.effect limits (sym c.in-CfaOffset.is)
    (needs-offset executed (no-expression c.args.columns initial c.args.self.now.current (survivors 0 executed) follows.current))
    (rw c.in-CfaOffset.is at (c.set_cfa_offset.ensures is c.args.columns initial (survivors 0 executed) follows.current))

pub returns-in-Some : goal.returns-in-Some
returns-in-Some g c = λ is limits initial executed room follows.
    let number = g.T.ReaderOffset.value in
    let keeps = c.set_rule.ensures is (rule_as number c.in-Rule.rule) c.in-Some.ensures initial (survivors 0 executed) follows.current in
    applies-to c.args.columns number initial c.args.self.now (record c.args.self.now { current = c.set_rule.new.self }) executed follows refl refl (Rule c.in-Rule.register c.in-Rule.rule) refl refl
    c.args.effect limits (sym c.in-Rule.is)
    (rules-fit c.args.columns limits room initial c.in-Rule.register.0 (Rule c.in-Rule.register (rule_as number c.in-Rule.rule) ∷ executed) c.set_rule.new.self keeps)
    keeps

pub returns-in-None : goal.returns-in-None
returns-in-None g c = λ is limits initial executed room follows.
    let number = g.T.ReaderOffset.value in
    let keeps = c.pass_rule.ensures is (rule_as number c.in-Rule.rule) initial (survivors 0 executed) follows.current in
    applies-to c.args.columns number initial c.args.self.now (record c.args.self.now { current = c.pass_rule.new.self }) executed follows refl refl (Rule c.in-Rule.register c.in-Rule.rule) refl refl
    c.args.effect limits (sym c.in-Rule.is)
    (rules-fit c.args.columns limits room initial c.in-Rule.register.0 (Rule c.in-Rule.register (rule_as number c.in-Rule.rule) ∷ executed) c.pass_rule.new.self keeps)
    keeps

pub returns-in-RestoreRule : goal.returns-in-RestoreRule
returns-in-RestoreRule g c = λ is limits initial executed room follows.
    let number = g.T.ReaderOffset.value in
    let keeps = c.restore_rule.ensures is initial (survivors 0 executed) follows.restores follows.current in
    applies-to c.args.columns number initial c.args.self.now (record c.args.self.now { current = c.restore_rule.new.self }) executed follows refl refl (RestoreRule c.in-RestoreRule.register) refl refl
    c.args.effect limits (sym c.in-RestoreRule.is)
    (rules-fit c.args.columns limits room initial c.in-RestoreRule.register.0 (RestoreRule c.in-RestoreRule.register ∷ executed) c.restore_rule.new.self keeps)
    keeps

pub returns-in-NegateRaState : goal.returns-in-NegateRaState
returns-in-NegateRaState g c = λ is limits initial executed room follows.
    let number = g.T.ReaderOffset.value in
    let keeps = keeps-negated c.args.columns c.args.self.now.current c.count_rule.new.self (c.count_rule.ensures is) initial (survivors 0 executed) follows.current in
    applies-to c.args.columns number initial c.args.self.now (record c.args.self.now { current = c.count_rule.new.self }) executed follows refl refl NegateRaState refl refl
    c.args.effect limits (sym c.in-NegateRaState.is)
    (needs-turn c.args.columns limits room initial executed c.args.self.now.current c.count_rule.new.self follows.current keeps)
    keeps
