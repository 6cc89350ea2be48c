use Rattle.std.proofs.Common.{◌≡◌, ℕ, Bool, ap, ◌∙◌, sym, refl}
use Rattle.std.proofs.lemmas.Result.{err_from_is_err_and}
use Rattle.std.specs.Prelude.{Option, Some, Result, Ok, Err}
use Rattle.framehop_registers.specs.Callback.{Words}
use Rattle.framehop_rules.specs.Outcome.{Answers, and_then, answer_of_outcome, registers_after, outcome_or_end_of}
use Rattle.framehop_rules.specs.RuleMeaning.{StackFrame, moves, return_address, caller_registers, returned_caller}
use Rattle.framehop_registers.specs.declared.error.Error.{Error}
use Rattle.framehop_rules.specs.declared.x86_64.unwind_rule.UnwindRuleX86_64.{UnwindRuleX86_64}
use Rattle.framehop_registers.specs.declared.x86_64.unwindregs.UnwindRegsX86_64.{UnwindRegsX86_64}
use Rattle.framehop_registers.proofs.Laws.{over_both}
use Rattle.framehop_rules.proofs.x86_64.unwind_rule.UnwindRuleX86_64.return_to_caller.Goals as goal

-- the rule's meaning, from what the moves and the read of the return address gave
meaning_is : (rule : UnwindRuleX86_64) (is_first : Bool) (registers : UnwindRegsX86_64) (words : Words) (sp bp : ℕ)
    (moved : Option StackFrame) → moved ≡ Some (sp, bp) → outcome_or_end_of (Ok moved) ≡ moves rule is_first registers words
    → (read answer : Result (Option ℕ) Error) → read ≡ answer → outcome_or_end_of read ≡ return_address registers words sp
    → and_then (outcome_or_end_of answer) (λ to. Answers (record { return_address = to; registers = caller_registers registers to sp bp }))
    ≡ and_then (moves rule is_first registers words) (returned_caller registers words)
meaning_is rule is_first registers words sp bp moved is moved_is read answer read_is returns =
    ap (λ r. and_then r (λ to. Answers (record { return_address = to; registers = caller_registers registers to sp bp })))
    (ap outcome_or_end_of (sym read_is) ∙ returns)
    ∙ ap (λ m. and_then m (returned_caller registers words)) (sym (ap (λ o. outcome_or_end_of (Ok o)) is) ∙ moved_is)

pub returns-in_err-return_address-clause-step : goal.returns-in_err-return_address-clause-step
returns-in_err-return_address-clause-step g c =
    over_both c.in_ok-new_sp.ensures.moves c.in_err-return_address.ensures.address (λ words moved read.
    let from = err_from_is_err_and c.from_residual-in_err-return_address.result c.from_residual-in_err-return_address.ensures.1 in
    let is = meaning_is c.args.self c.args.is_first_frame c.args.regs.now words c.in-Some.new_sp c.in-Some.new_bp
    _ c.in-Some.is moved (Err c.in_err-return_address.field-0.0) (Err c.in_err-return_address.field-0.0) refl read in
    record { answer = rw (from.1, from.2) (ap answer_of_outcome is); registers = ap (registers_after c.args.regs.now) is })

pub returns-in_default-2-clause-step : goal.returns-in_default-2-clause-step
returns-in_default-2-clause-step g c =
    over_both c.in_ok-new_sp.ensures.moves c.in_ok-return_address.ensures.address (λ words moved read.
    let is = meaning_is c.args.self c.args.is_first_frame c.args.regs.now words c.in-Some.new_sp c.in-Some.new_bp
    _ c.in-Some.is moved _ _ (ap Ok c.in_default-2.is) read in
    record { answer = ap answer_of_outcome is; registers = ap (registers_after c.args.regs.now) is })

pub returns-clause-step : goal.returns-clause-step
returns-clause-step g c =
    over_both c.in_ok-new_sp.ensures.moves c.in_ok-return_address.ensures.address (λ words moved read.
    let is = meaning_is c.args.self c.args.is_first_frame c.args.regs.now words c.in-Some.new_sp c.in-Some.new_bp
    _ c.in-Some.is moved _ _ (ap Ok c.in-Some-2.is) read in
    record {
      answer = ap answer_of_outcome is;
      registers = rw (c.set_bp.ensures, c.set_sp.ensures, c.set_ip.ensures) (ap (registers_after c.args.regs.now) is);
    })
