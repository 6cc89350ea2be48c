use Rattle.std.proofs.Common.{◌≡◌, ◌∙◌, ℕ, suc, ◌+◌, ◌-◌, ◌<◌, ◌≤◌, List, [], ◌∷◌, ◌++◌, length, set, take, append_assoc, append-nil, ap, sym, refl, subst, arith}
use Rattle.std.specs.Prelude.{pos, ◌+ℤ◌}
use Rattle.std.proofs.lemmas.List.{take_all, take_more_set}
use Rattle.std.proofs.lemmas.Result.{err_from_is_err_and}
use Rattle.framehop_registers.specs.Callback.{Words, Leads}
use Rattle.framehop_registers.specs.declared.error.Error.{Error}
use Rattle.framehop_registers.proofs.Laws.{over_weaker, over_both, leads_both}
use Rattle.framehop_rules.specs.Outcome.{Outcome, Refuses, Answers, and_then, address, word}
use Rattle.framehop_rules.specs.CodeViews.{words_from}
use Rattle.framehop_rules.specs.RuleReads.{reads_of_pops}
use Rattle.framehop_rules.proofs.Parts.{and_then-assoc, and_then-same}
use Rattle.framehop_rules.proofs.PopReads.{reads_more, reads_refused, reads_at_the_end, reads_done}
use Rattle.framehop_rules.proofs.x86_64.pops.read_words.Goals as goal
use Rattle.framehop_rules.proofs.x86_64.pops.read_words.Given as given

abbrev Read : Type 0
Read = List ℕ × ℕ

abbrev behind_first : List ℕ → ℕ → Read → Outcome Read
behind_first words k rest = Answers (take k words ++ rest.0, rest.1)

-- what is still to come begins with a word
begins : (stack : Words) (n k at : ℕ) (words : List ℕ) (whole : Outcome Read) → k < n
    → and_then (words_from stack (n - k) at) (behind_first words k) ≡ whole
    → and_then (words_from stack (suc (n - (k + 1))) at) (behind_first words k) ≡ whole
begins stack n k at words whole inside so_far =
    let one : n - k ≡ suc (n - (k + 1)) = omega arith in
    ap (λ m. and_then (words_from stack m at) (behind_first words k)) (sym one) ∙ so_far

-- a word that can't be read
unreadable : (stack : Words) (n k at : ℕ) (words : List ℕ) (whole : Outcome Read) (error : Error) → k < n → Refuses error ≡ word stack at
    → and_then (words_from stack (n - k) at) (behind_first words k) ≡ whole → Refuses error ≡ whole
unfolding words_from
unreadable stack n k at words whole error inside fails so_far =
    ap (λ o. and_then (and_then o (λ value. and_then (address (pos at +ℤ pos 8)) (λ next. and_then (words_from stack (n - (k + 1)) next) (λ read. Answers (value ∷ read.0, read.1))))) (behind_first words k)) fails
    ∙ begins stack n k at words whole inside so_far

-- a word behind which no address is
at_the_end : (stack : Words) (n k at value : ℕ) (words : List ℕ) (whole : Outcome Read) (error : Error) → k < n → Answers value ≡ word stack at
    → Refuses error ≡ address (pos at +ℤ pos 8)
    → and_then (words_from stack (n - k) at) (behind_first words k) ≡ whole → Refuses error ≡ whole
unfolding words_from
at_the_end stack n k at value words whole error inside reads fails so_far =
    let rest : ℕ → ℕ → Outcome Read = λ value next. and_then (words_from stack (n - (k + 1)) next) (λ read. Answers (value ∷ read.0, read.1)) in
    ap (λ o. and_then (and_then o (rest value)) (behind_first words k)) fails
    ∙ ap (λ o. and_then (and_then o (λ value. and_then (address (pos at +ℤ pos 8)) (rest value))) (behind_first words k)) reads
    ∙ begins stack n k at words whole inside so_far

-- one word more
more : (stack : Words) (n k at value next : ℕ) (words : List ℕ) (whole : Outcome Read) → k < n → k < length words → Answers value ≡ word stack at
    → Answers next ≡ address (pos at +ℤ pos 8)
    → and_then (words_from stack (n - k) at) (behind_first words k) ≡ whole
    → and_then (words_from stack (n - (k + 1)) next) (behind_first (set words k value) (k + 1)) ≡ whole
unfolding words_from
more stack n k at value next words whole inside within reads goes so_far =
    let left = words_from stack (n - (k + 1)) next in
    let rest : ℕ → ℕ → Outcome Read = λ value next. and_then (words_from stack (n - (k + 1)) next) (λ read. Answers (value ∷ read.0, read.1)) in
    let front = take_more_set words k value within in
    and_then-same left (behind_first (set words k value) (k + 1)) (λ read. behind_first words k (value ∷ read.0, read.1))
    (λ read. ap (λ xs. Answers (xs, read.1)) (ap (λ xs. xs ++ read.0) front ∙ append_assoc (take k words) (value ∷ []) read.0))
    ∙ sym (and_then-assoc left (λ read. Answers (value ∷ read.0, read.1)) (behind_first words k))
    ∙ ap (λ o. and_then (and_then o (rest value)) (behind_first words k)) goes
    ∙ ap (λ o. and_then (and_then o (λ value. and_then (address (pos at +ℤ pos 8)) (rest value))) (behind_first words k)) reads
    ∙ begins stack n k at words whole inside so_far

-- behind the last
done : (stack : Words) (n k at : ℕ) (words : List ℕ) (whole : Outcome Read) → n ≤ k → length words ≤ k
    → and_then (words_from stack (n - k) at) (behind_first words k) ≡ whole → Answers (words, at) ≡ whole
unfolding words_from
done stack n k at words whole past all so_far =
    let none : n - k ≡ 0 = omega arith in
    ap (λ xs. Answers (xs, at)) (sym (append-nil (take k words) ∙ take_all k words all))
    ∙ ap (λ m. and_then (words_from stack m at) (behind_first words k)) (sym none)
    ∙ so_far

pub returns-in_err-word-clause-read : goal.returns-in_err-word-clause-read
returns-in_err-word-clause-read g c =
    let l = c.loop-word in
    over_both l.invariant.read c.in_err-word.ensures.word (λ stack so_far fails.
    let from = err_from_is_err_and c.from_residual.result c.from_residual.ensures.1 in
    rw (from.1, from.2) (unreadable stack (length c.args.words.now) l.word-index l.at l.words _ c.in_err-word.field-0.0 (omega arith) fails so_far))

pub returns-in_err-at-clause-read : goal.returns-in_err-at-clause-read
returns-in_err-at-clause-read g c =
    let l = c.loop-word in
    over_both l.invariant.read c.in_ok-word.ensures.word (λ stack so_far reads.
    let from = err_from_is_err_and c.from_residual-in_err-at.result c.from_residual-in_err-at.ensures.1 in
    rw (from.1, from.2) (at_the_end stack (length c.args.words.now) l.word-index l.at c.in_ok-word.field-0 l.words _ c.in_err-at.field-0.0 (omega arith) reads c.in_err-at.ensures.sum so_far))

pub loop-word-preserved : goal.loop-word-preserved
loop-word-preserved g c =
    let l = c.loop-word in
    record {
      callable = c.in_ok-word.ensures.callable;
      read = over_both l.invariant.read c.in_ok-word.ensures.word (λ stack so_far reads.
          more stack (length c.args.words.now) l.word-index l.at c.in_ok-word.field-0 c.in_ok-at.at l.words _ (omega arith) (omega arith) reads c.in_ok-at.ensures.sum so_far);
      order = λ stack answers last rest. l.invariant.order stack answers last
          (subst (λ reads. Leads (given.F-step g) l.read_stack reads last)
          (reads_more stack (length c.args.words.now) l.word-index l.at c.in_ok-word.field-0 c.in_ok-at.at (omega arith)
          (c.in_ok-word.ensures.word.said stack (l.invariant.read.still stack answers)) c.in_ok-at.ensures.sum)
          (leads_both (given.F-step g) (l.at ∷ []) (reads_of_pops stack (length c.args.words.now - (l.word-index + 1)) c.in_ok-at.at) l.read_stack c.read_word.new.read_stack last c.in_ok-word.ensures.order rest));
    }

pub returns-clause-read : goal.returns-clause-read
returns-clause-read g c =
    let l = c.loop-word in
    over_weaker l.invariant.read (λ stack so_far. done stack (length c.args.words.now) l.word-index l.at l.words _ (omega arith) (omega arith) so_far)

pub returns-in_err-word-clause-order : goal.returns-in_err-word-clause-order
returns-in_err-word-clause-order g c =
    let l = c.loop-word in
    λ stack answers. l.invariant.order stack answers c.read_word.new.read_stack
    (subst (λ reads. Leads (given.F-step g) l.read_stack reads c.read_word.new.read_stack)
    (reads_refused stack (length c.args.words.now) l.word-index l.at c.in_err-word.field-0.0 (omega arith)
    (c.in_err-word.ensures.word.said stack (l.invariant.read.still stack answers)))
    c.in_err-word.ensures.order)

pub returns-in_err-at-clause-order : goal.returns-in_err-at-clause-order
returns-in_err-at-clause-order g c =
    let l = c.loop-word in
    λ stack answers. l.invariant.order stack answers c.read_word.new.read_stack
    (subst (λ reads. Leads (given.F-step g) l.read_stack reads c.read_word.new.read_stack)
    (reads_at_the_end stack (length c.args.words.now) l.word-index l.at c.in_ok-word.field-0 c.in_err-at.field-0.0 (omega arith)
    (c.in_ok-word.ensures.word.said stack (l.invariant.read.still stack answers)) c.in_err-at.ensures.sum)
    c.in_ok-word.ensures.order)

pub returns-clause-order : goal.returns-clause-order
returns-clause-order g c =
    let l = c.loop-word in
    λ stack answers. l.invariant.order stack answers l.read_stack
    (subst (λ reads. Leads (given.F-step g) l.read_stack reads l.read_stack)
    (reads_done stack (length c.args.words.now) l.word-index l.at (omega arith))
    refl)
