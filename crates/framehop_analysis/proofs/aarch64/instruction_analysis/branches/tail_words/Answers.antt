use Rattle.framehop_analysis.proofs.EndWords.{one_word, two_words, no_far}
use Rattle.framehop_analysis.proofs.aarch64.instruction_analysis.branches.tail_words.Goals as goal

pub returns-then-is_branch-clause-words : goal.returns-then-is_branch-clause-words
returns-then-is_branch-clause-words c =
    one_word c.args.bytes.now c.in_ok-word.suffix.now c.in_ok-word.word c.in_ok-word.ensures.bytes (c.is_branch.ensures.0 c.if-is_branch.true)

pub returns-then-is_auth_branch-clause-words : goal.returns-then-is_auth_branch-clause-words
returns-then-is_auth_branch-clause-words c =
    two_words c.args.bytes.now c.in_ok-word.suffix.now c.in_ok-next.field-0-1.now c.in_ok-word.word c.in_ok-next.next c.in_ok-word.ensures.bytes c.in_ok-next.ensures.bytes
    (c.is_move_to_x16.ensures.0 c.if-not-is_move_to_x16.false) (c.is_auth_branch.ensures.0 c.if-is_auth_branch.true)

pub returns-else-is_auth_branch-clause-none : goal.returns-else-is_auth_branch-clause-none
returns-else-is_auth_branch-clause-none c = λ words.
    no_far c.args.bytes.now c.in_ok-word.suffix.now c.in_ok-next.field-0-1.now c.in_ok-word.word c.in_ok-next.next words c.in_ok-word.ensures.bytes c.in_ok-word.ensures.fits
    (λ branch. let e = c.is_branch.ensures.1 branch in let f = c.if-is_branch.false in cc)
    c.in_ok-next.ensures.bytes c.in_ok-next.ensures.fits
    (λ branch. let e = c.is_auth_branch.ensures.1 branch in let f = c.if-is_auth_branch.false in cc)
