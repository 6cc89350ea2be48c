use Rattle.std.proofs.Common.{◌≡◌, ℕ, arith, of_calls}
use Rattle.std.specs.Prelude.{Option, Some, None, Ok, Err}
use Rattle.framehop_registers.specs.Callback.{read_answer}
use Rattle.framehop_registers.proofs.Laws.{over_read}
use Rattle.framehop_errors.specs.declared.pe.PeUnwinderError.{PeUnwinderError}
use Rattle.framehop_errors.specs.declared.pe.PeUnwinderError.TheVariants.{MissingStackData}
use Rattle.framehop_pe_codes.specs.Refusals.{PeResult, or_refusal}
use Rattle.framehop_pe_codes.proofs.machine.read_word.Goals as goal

-- a word that was read is the word there
given : (refusal : PeUnwinderError) (there : Option ℕ) (value : ℕ) → Ok value ≡ read_answer there → let o : PeResult ℕ = Ok value in o ≡ or_refusal refusal there
given refusal (Some found) value is = grind arith
given refusal None value is = grind arith

-- a read that failed shows that no word is there
refused : (refusal : PeUnwinderError) (there : Option ℕ) → Err tt ≡ read_answer there → let o : PeResult ℕ = Err refusal in o ≡ or_refusal refusal there
refused refusal (Some found) is = grind arith
refused refusal None is = grind arith

pub returns-in-Ok-clause-word : goal.returns-in-Ok-clause-word
returns-in-Ok-clause-word g c =
    over_read c.args.at (Ok c.in-Ok.word) c.ranges.at.fits (search of_calls)
    (λ words is. given (MissingStackData c.args.told) (words c.args.at) c.in-Ok.word is)

pub returns-in-Err-clause-word : goal.returns-in-Err-clause-word
returns-in-Err-clause-word g c =
    over_read c.args.at (Err tt) c.ranges.at.fits (search of_calls)
    (λ words is. refused (MissingStackData c.args.told) (words c.args.at) is)
