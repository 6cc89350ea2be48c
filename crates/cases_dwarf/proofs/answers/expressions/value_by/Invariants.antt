use Rattle.std.proofs.Common.{◌≡◌, ℕ, suc}
use Rattle.dwarf_constants.specs.declared.common.Register.{Register}
use Rattle.dwarf_expressions.specs.Evaluation.{CanResume, EvaluationState, operations_left}
use Rattle.dwarf_expressions.specs.declared.evaluation.EvaluationResult.{EvaluationResult}
use Rattle.dwarf_expressions.specs.declared.evaluation.EvaluationResult.TheVariants.{Complete, RequiresRegister}
use Rattle.cases_dwarf.proofs.answers.expressions.value_by.Given as goal

-- one more than the operations that may still run, where a register is asked for
abbrev pub requests_left : EvaluationResult → EvaluationState → ℕ
requests_left Complete state = 0
requests_left (RequiresRegister register) state = suc (operations_left state)

abbrev pub invariant-requests : goal.invariant-requests
invariant-requests g l = (register : Register) → l.answer ≡ RequiresRegister register → CanResume l.evaluation.state

abbrev pub decreases-requests : goal.decreases-requests
decreases-requests g l = requests_left l.answer l.evaluation.state
