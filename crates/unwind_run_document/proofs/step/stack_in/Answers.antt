use Rattle.std.proofs.Common.{sym, ap, ◌∙◌}
use Rattle.json_program.specs.Faults.{◌>>=◌}
use Rattle.unwind_run_document.specs.Stacks.{stack_at}
use Rattle.json_program.specs.Decoded.{result_map}
use Rattle.json_program.proofs.Laws.{keep_fault-decoded, passed_on}
use Rattle.unwind_run_document.proofs.Steps.{under, two_fields}
use Rattle.unwind_run_document.proofs.step.stack_in.Goals as goal

pub returns-in_err-start : goal.returns-in_err-start
returns-in_err-start c =
    passed_on _ _ _ _ c.from_residual-in_err-start.ensures.1
    (under _ _ _ _ (sym c.has_only.ensures ∙ c.if-not-has_only.false)
    (ap (λ r. r >>= λ stack. stack_at stack.0 stack.1)
    (ap (result_map (λ p. (p.0, p.1.items))) (sym c.in_err-start.was)
    ∙ two_fields _ _ _ _ _ c.address_field.ensures (keep_fault-decoded _ _ _ _ c.words_field.ensures (sym c.keep_fault.ensures ∙ c.in_ok-words.was)) c.both.ensures)))
