use Rattle.std.proofs.Common.{sym, ap, ◌∙◌}
use Rattle.unwind_run_document.specs.Steps.{stepping_of}
use Rattle.json_program.specs.Decoded.{result_map}
use Rattle.unwind_run_document.specs.CommandViews.{words_view}
use Rattle.json_program.proofs.Laws.{keep_fault-decoded, passed_on}
use Rattle.unwind_run_document.proofs.Steps.{under, five_fields}
use Rattle.unwind_run_document.proofs.step.step_in.Goals as goal

pub returns-in_err-unwinder : goal.returns-in_err-unwinder
returns-in_err-unwinder c =
    passed_on _ _ _ _ c.from_residual-in_err-unwinder.ensures.1
    (under _ _ _ _ (sym c.has_only.ensures ∙ c.if-not-has_only.false)
    (ap (result_map (λ p. stepping_of p.0.0.0.0 p.0.0.0.1 p.0.0.1 p.0.1 (words_view p.1))) (sym c.in_err-unwinder.was)
    ∙ five_fields _ _ _ _ _ _ _ _ _ _ _ _ _ _
    c.made_number-unwinder.ensures c.made_number-cache.ensures c.frame_in-frame.ensures c.registers_field-registers.ensures
    (keep_fault-decoded _ _ _ _ c.stack_field.ensures (sym c.keep_fault.ensures ∙ c.in_ok-stack.was))
    c.both.ensures c.both-2.ensures c.both-3.ensures c.both-4.ensures))

pub returns : goal.returns
returns c =
    sym
    (under _ _ _ _ (sym c.has_only.ensures ∙ c.if-not-has_only.false)
    (ap (result_map (λ p. stepping_of p.0.0.0.0 p.0.0.0.1 p.0.0.1 p.0.1 (words_view p.1))) (sym c.in_ok-unwinder.was)
    ∙ five_fields _ _ _ _ _ _ _ _ _ _ _ _ _ _
    c.made_number-unwinder.ensures c.made_number-cache.ensures c.frame_in-frame.ensures c.registers_field-registers.ensures
    (keep_fault-decoded _ _ _ _ c.stack_field.ensures (sym c.keep_fault.ensures ∙ c.in_ok-stack.was))
    c.both.ensures c.both-2.ensures c.both-3.ensures c.both-4.ensures))
