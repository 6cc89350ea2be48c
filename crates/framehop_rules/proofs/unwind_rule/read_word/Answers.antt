use Rattle.std.proofs.Common.{◌≡◌, ℕ, arith, of_calls}
use Rattle.std.specs.Prelude.{Option, Some, None, Ok, Err}
use Rattle.framehop_registers.specs.Callback.{read_answer}
use Rattle.framehop_rules.specs.Outcome.{Answers, Refuses, word}
use Rattle.framehop_registers.specs.declared.error.Error.TheVariants.{CouldNotReadStack}
use Rattle.framehop_registers.proofs.Laws.{over_read}
use Rattle.framehop_rules.proofs.unwind_rule.read_word.Goals as goal

-- a word that was read is the word there
given : (there : Option ℕ) (at value : ℕ) → Ok value ≡ read_answer there → Answers value ≡ word (λ _. there) at
given (Some found) at value is = grind arith
given None at value is = grind arith

-- a read that failed shows that no word is there
refused : (there : Option ℕ) (at : ℕ) → Err tt ≡ read_answer there → Refuses (CouldNotReadStack at) ≡ word (λ _. there) at
refused (Some found) at is = grind arith
refused None at is = grind arith

pub returns-in-Ok-clause-word : goal.returns-in-Ok-clause-word
returns-in-Ok-clause-word g c =
    over_read c.args.at (Ok c.in-Ok.word) c.ranges.at.fits (search of_calls)
    (λ words is. given (words c.args.at) c.args.at c.in-Ok.word is)

pub returns-in-Err-clause-word : goal.returns-in-Err-clause-word
returns-in-Err-clause-word g c =
    over_read c.args.at (Err tt) c.ranges.at.fits (search of_calls)
    (λ words is. refused (words c.args.at) c.args.at is)
