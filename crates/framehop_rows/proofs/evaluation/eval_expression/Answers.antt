use Rattle.std.proofs.Common.{◌≡◌, Ok, subst, sym, ap, ◌∙◌}
use Rattle.dwarf_expressions.specs.Evaluation.{ComesTo, EvaluationInput, Ready, first_machine, state_reached, state_reached_with}
use Rattle.dwarf_expressions.specs.declared.evaluation.EvaluationResult.TheVariants.{RequiresRegister}
use Rattle.framehop_rows.specs.ExpressionValue.{expression_program, value_by_requests}
use Rattle.framehop_rows.proofs.Evaluations.{fewer_requests, grows, leads_on}
use Rattle.framehop_rows.proofs.evaluation.eval_expression.Goals as goal

pub requests-smaller : goal.requests-smaller
requests-smaller g c =
    let inner = rw c.in-Ok-RequiresRegister.is at c.in-Ok-RequiresRegister.field-0-is in
    fewer_requests c.requests.evaluation.state c.resume_with_register-answer.new.self.state c.in-Ok-RequiresRegister.register c.requests.answer c.resume_with_register-answer.result
    (c.in-Ok-RequiresRegister.is ∙ ap (λ x. Ok x) inner) c.resume_with_register-answer.ensures.fewer

pub requests-preserved : goal.requests-preserved
requests-preserved g c =
    let limit = g.S.Stack.ArrayLike.capacity in
    let p = expression_program limit c.args.encoding.address_size (g.R.Reader.stretch c.args.expression.0) in
    let registers = g.G.DwarfUnwindRegs.value c.args.regs.now in
    let s = c.requests.evaluation.state in
    let t = c.resume_with_register-answer.new.self.state in
    let register = c.in-Ok-RequiresRegister.register in
    let inner = rw c.in-Ok-RequiresRegister.is at c.in-Ok-RequiresRegister.field-0-is in
    let asks : c.requests.answer ≡ Ok (RequiresRegister register) = c.in-Ok-RequiresRegister.is ∙ ap (λ x. Ok x) inner in
    let Reached : EvaluationInput → Type 0 = λ q. ComesTo q.capacity (state_reached_with q c.in-Some.value s) t in
    record {
      program = c.resume_with_register-answer.ensures.goes.program ∙ c.requests.invariant.program;
      answers = c.resume_with_register-answer.ensures.goes.answer;
      can = c.resume_with_register-answer.ensures.asks;
      memory =
          λ h. sym (ap (λ (q : EvaluationInput). q.capacity) c.requests.invariant.program)
          ∙ grows c.requests.evaluation.program.capacity s register c.requests.answer c.requests.invariant.answers asks (c.resume_with_register-answer.ensures.memory h);
      leads =
          leads_on s t register c.in-Some.value c.requests.answer c.resume_with_register-answer.result c.requests.invariant.answers asks c.resume_with_register-answer.ensures.goes.answer
          c.resume_with_register-answer.ensures.fewer p registers (value_by_requests p registers (state_reached p (Ready first_machine))) c.requests.invariant.leads
          (sym c.get.ensures ∙ c.in-Some.is) (subst Reached c.requests.invariant.program c.resume_with_register-answer.ensures.goes.state);
    }
