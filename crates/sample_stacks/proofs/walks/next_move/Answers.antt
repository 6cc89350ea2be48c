use Rattle.std.proofs.Common.{refl, sym, ap, ◌∙◌}
use Rattle.framehop_unwinder.specs.IdViews.{modules_by}
use Rattle.framehop_unwinder.specs.WalkViews.{frame_answer, walk_of}
use Rattle.sample_stacks.specs.SampleWalks.{next_of}
use Rattle.sample_stacks.specs.StackCopies.{copied_words}
use Rattle.sample_stacks.proofs.Calls.{if_done, is_done}
use Rattle.sample_stacks.proofs.MoveLaws.{moves}
use Rattle.sample_stacks.proofs.StillCallback.{answers_always}
use Rattle.sample_stacks.proofs.walks.next_move.Goals as goal

pub unwrap-answer-requires : goal.unwrap-answer-requires
unwrap-answer-requires g c = is_done _ c.next_frame.result _ _ c.requires c.next_frame.ensures.found

pub returns-clause-next : goal.returns-clause-next
returns-clause-next g c =
    let answer = c.unwrap-answer.result in
    let e = c.next_frame.ensures in
    let words = copied_words c.args.copy.now in
    let moved = if_done c.next_frame.result answer _ c.unwrap-answer.ensures (e.moved.said words
    (answers_always _ _ _ (λ at r next fits read. sym read.met.1.1) (λ at r next fits read. read.met.0))) in
    let memory = if_done c.next_frame.result answer _ c.unwrap-answer.ensures e.memory in
    let made = moves g.A.SampleArch.samples.steps (modules_by c.args.session.now c.args.unwinder) words g.met.A.SampleArch.steps_are
    (frame_answer answer) (walk_of c.args.walk.now) (walk_of c.next_frame.new.walk)
    (moved (memory.never refl)) in
    record {
      next_is = c.next_of.ensures ∙ ap (λ m. next_of c.args.copy.now.start m.answer) made;
      walk_is = ap (λ m. m.walk) made;
    }

pub returns-clause-session : goal.returns-clause-session
returns-clause-session g c =
    let changes = if_done c.next_frame.result c.unwrap-answer.result _ c.unwrap-answer.ensures c.next_frame.ensures.caches in
    record { unwinders = changes.unwinders; caches = changes.held }
