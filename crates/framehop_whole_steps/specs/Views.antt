-- What functions of this crate return, as the contracts of private functions see it.
use Rattle.std.specs.Prelude.{◌≡◌, ℕ, false, Option, Some, None, Result, Ok, Err}
use Rattle.dwarf_readers.specs.Stretch.{whole}
use Rattle.dwarf_frame_instructions.specs.Execution.{row_in}
use Rattle.framehop_registers.specs.Callback.{Words, OverWords}
use Rattle.framehop_rules.specs.Outcome.{Caller}
use Rattle.framehop_rules.specs.declared.unwind_result.UnwindResult.{UnwindResult}
use Rattle.framehop_rules.specs.declared.unwind_result.UnwindResult.TheVariants.{Uncacheable}
use Rattle.framehop_unwinder.specs.declared.unwinding.UnwindFailure.{UnwindFailure}
use Rattle.framehop_unwinder.specs.declared.unwinding.UnwindFailure.TheVariants as failure
use Rattle.framehop_expressions.specs.Registers.{known}
use Rattle.framehop_whole_rows.specs.Callers.{WholeCaller}
use Rattle.framehop_whole_rows.specs.declared.caller.KnownCaller.{KnownCaller}
use Rattle.framehop_whole_steps.specs.FoundRows as rows
use Rattle.framehop_whole_steps.specs.declared.found_row.FoundRow.{FoundRow}
use Rattle.framehop_whole_steps.specs.declared.rule.WholeRule.{WholeRule}

-- a caller that a row gave, by its registers that are known
abbrev pub caller_seen : KnownCaller → WholeCaller
caller_seen caller = record { return_address = caller.return_address; registers = known caller.registers }

-- what a step by a module answers
abbrev pub Answer : Type 0 → Type 0
Answer Rule = Result (UnwindResult (WholeRule Rule)) UnwindFailure

-- what is answered for a caller's return address, or for none
abbrev pub answer_of : {Rule : Type 0} → Option ℕ → Answer Rule
answer_of (Some to) = Ok (Uncacheable to)
answer_of None = Err failure.OfFrame

-- a return address, if a caller was found
abbrev pub address_found : {Registers : Type 0} → Option (Caller Registers) → Option ℕ
address_found None = None
address_found (Some caller) = Some caller.return_address

-- the registers afterwards: the caller's, or as they were
abbrev pub registers_found : {Registers : Type 0} → Registers → Option (Caller Registers) → Registers
registers_found before None = before
registers_found before (Some caller) = caller.registers

-- A call found a caller, or none: its return address, and the registers that it leaves.
pub record Finds {Registers : Type 0} (result : Option ℕ) (before after : Registers) (caller : Option (Caller Registers)) : Type 0 where
  pub address : result ≡ address_found caller
  pub registers : after ≡ registers_found before caller

-- over all words that the callback answered by
abbrev pub FindsOver : {Stack Registers : Type 0} → (Stack → ℕ → Result ℕ (Unit {0}) → Stack → Type 0) → (old new : Stack) → Option ℕ
    → (before after : Registers) → (Registers → Words → Option (Caller Registers)) → Type 0
FindsOver step old new result before after caller = OverWords step old new (λ words. Finds result before after (caller before words))

-- a row that is found
abbrev pub row_seen : {Rules : Type 0} → FoundRow Rules → rows.FoundRow
row_seen found = rows.found_row (whole false found.section.now) (row_in (λ offset. offset) found.row.now) found.column.0
