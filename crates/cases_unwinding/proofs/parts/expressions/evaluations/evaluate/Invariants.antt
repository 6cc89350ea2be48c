use Rattle.std.proofs.Common.{◌≡◌}
use Rattle.dwarf_constants.specs.declared.common.Register.{Register}
use Rattle.dwarf_expressions.specs.Evaluation.{CanResume}
use Rattle.dwarf_expressions.specs.declared.evaluation.EvaluationResult.TheVariants.{RequiresRegister}
use Rattle.cases_unwinding.proofs.parts.expressions.evaluations.evaluate.Given as goal

abbrev pub invariant-loop : goal.invariant-loop
invariant-loop g l = (register : Register) → l.answer ≡ RequiresRegister register → CanResume l.evaluation.state
