use Rattle.std.proofs.Common.{◌≡◌, None, Ok, Err}
use Rattle.dwarf_constants.specs.declared.common.Register.{Register}
use Rattle.dwarf_constants.specs.declared.error.Error.TheVariants.{OutOfMemory}
use Rattle.dwarf_expressions.specs.Evaluation.{Answers, CanResume, Ready, state_reached, first_machine}
use Rattle.dwarf_expressions.specs.declared.evaluation.EvaluationResult.TheVariants.{RequiresRegister}
use Rattle.framehop_rows.specs.ExpressionValue.{expression_program, value_by_requests}
use Rattle.framehop_rows.proofs.Evaluations.{LeadsOn, requests_left}
use Rattle.framehop_rows.proofs.evaluation.eval_expression.Given as goal

abbrev pub invariant-requests : goal.invariant-requests
invariant-requests g l =
    let limit = g.S.Stack.ArrayLike.capacity in
    let p = expression_program limit l.fn.encoding.address_size (g.R.Reader.stretch l.fn.expression.0) in
    let registers = g.G.DwarfUnwindRegs.value l.regs in
    record {
      program : l.evaluation.program ≡ p;
      answers : Answers l.evaluation.state l.answer;
      can : (register : Register) → l.answer ≡ Ok (RequiresRegister register) → CanResume l.evaluation.state;
      memory : l.answer ≡ Err OutOfMemory → limit ≡ None;
      leads : LeadsOn p registers (value_by_requests p registers (state_reached p (Ready first_machine))) l.evaluation.state;
    }

abbrev pub decreases-requests : goal.decreases-requests
decreases-requests g l = requests_left l.answer l.evaluation.state
