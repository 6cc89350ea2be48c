use Rattle.std.proofs.Common.{◌≡◌, ◌-◌, ◌++◌, length, take}
use Rattle.framehop_registers.specs.Callback.{OverWords}
use Rattle.framehop_rules.specs.Outcome.{Answers, and_then}
use Rattle.framehop_rules.specs.CodeViews.{words_from}
use Rattle.framehop_rules.specs.RuleReads.{reads_of_pops}
use Rattle.framehop_rules.proofs.PopReads.{ReadsLeft}
use Rattle.framehop_rules.proofs.x86_64.pops.read_words.Given as goal

abbrev pub invariant-loop-word : goal.invariant-loop-word
invariant-loop-word g l = record {
  callable : goal.F-IsAlwaysCallable g l.read_stack;
  read : OverWords (goal.F-step g) l.fn.read_stack l.read_stack (λ stack.
      and_then (words_from stack (length l.fn.words - l.word-index) l.at) (λ rest. Answers (take l.word-index l.words ++ rest.0, rest.1))
      ≡ words_from stack (length l.fn.words) l.from);
  order : ReadsLeft (goal.F-step g) l.fn.read_stack l.read_stack (λ stack. reads_of_pops stack (length l.fn.words - l.word-index) l.at)
      (λ stack. reads_of_pops stack (length l.fn.words) l.from);
}
