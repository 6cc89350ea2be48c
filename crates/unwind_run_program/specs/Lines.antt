-- The lines that a run writes, as bytes of ASCII text.
use Rattle.std.specs.Prelude.{ℕ, List, ◌++◌, codes, Option, Some, None, Result, Ok, Err}
use Rattle.json_program.specs.Lines.{hexadecimal, line}
use Rattle.unwind_run_program.specs.Replies.{error_name}
use Rattle.framehop_rules.specs.Outcome.{Outcome, Caller, answer_of_outcome, registers_after}
use Rattle.framehop_registers.specs.declared.error.Error.{Error}

-- the return address that a step gives, that there is none, or why it failed
abbrev pub answer_text : Result (Option ℕ) Error → List ℕ
answer_text (Ok (Some address)) = codes "some " ++ hexadecimal address
answer_text (Ok None) = codes "none"
answer_text (Err error) = codes "error " ++ error_name error

-- the result of a step, and the text of the registers that it leaves
abbrev pub step_text : {Registers : Type 0} → (Registers → List ℕ) → Result (Option ℕ) Error → Registers → List ℕ
step_text text answer registers = answer_text answer ++ text registers

-- the line of a step
abbrev pub step_line : {Registers : Type 0} → (Registers → List ℕ) → Result (Option ℕ) Error → Registers → List ℕ
step_line text answer registers = line (step_text text answer registers)

-- the line of a step with an outcome, from registers
abbrev pub outcome_line : {Registers : Type 0} → (Registers → List ℕ) → Registers → Outcome (Caller Registers) → List ℕ
outcome_line text registers outcome = step_line text (answer_of_outcome outcome) (registers_after registers outcome)
