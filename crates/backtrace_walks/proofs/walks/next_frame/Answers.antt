use Rattle.std.proofs.Common.{◌≡◌, refl, subst, sym, true, ◌∙◌}
use Rattle.std.specs.Prelude.{◌&&◌}
use Rattle.core_files.specs.MemoryViews.{word_of}
use Rattle.framehop_unwinder.specs.ByNumber.{is_held}
use Rattle.framehop_unwinder.specs.IdViews.{cache_number}
use Rattle.framehop_unwinder.specs.State.{modules_at}
use Rattle.framehop_unwinder.specs.WalkViews.{frame_answer, walk_of}
use Rattle.backtrace_walks.specs.WalkedViews.{next_seen}
use Rattle.backtrace_walks.proofs.MoveLaws.{advances}
use Rattle.backtrace_walks.proofs.SessionLaws.{both_there, first_held, if_done, is_done}
use Rattle.backtrace_walks.proofs.walks.next_frame.Goals as goal

pub unwrap-answer-requires : goal.unwrap-answer-requires
unwrap-answer-requires g c =
    let now = c.args.session.now in
    let ready = c.requires.session in
    let both = subst (λ k. (is_held now.unwinders k && is_held now.caches (cache_number c.numbered-cache.result)) ≡ true) (sym c.numbered-unwinder.ensures)
    (subst (λ k. (is_held now.unwinders 0 && is_held now.caches k) ≡ true) (sym c.numbered-cache.ensures) (both_there _ _ ready.unwinder (first_held now.caches ∙ ready.cache))) in
    is_done _ c.next_frame.result _ _ both c.next_frame.ensures.found

pub returns-clause-next : goal.returns-clause-next
returns-clause-next g c =
    let answer = c.unwrap-answer.result in
    let e = c.next_frame.ensures in
    let new = c.next_frame.new.walk in
    record {
      said = λ words said.
          let moved = rw c.numbered-unwinder.ensures at (if_done c.next_frame.result answer _ c.unwrap-answer.ensures (e.moved.said words said)) in
          let memory = if_done c.next_frame.result answer _ c.unwrap-answer.ensures e.memory in
          advances g.A.ThreadArch.stacks.steps (modules_at c.args.session.now 0) (g.A.ThreadArch.stacks.interrupted (word_of c.args.memory.now)) words g.met.A.ThreadArch.steps_are
          (frame_answer answer) (walk_of c.args.walk.now) (walk_of new) (walk_of c.resumed.result) c.regs.result (next_seen c.next_by-next.result)
          (moved (memory.never refl)) c.regs.ensures c.next_by-next.ensures c.resumed.ensures;
      still = e.moved.still;
    }

pub returns-clause-session : goal.returns-clause-session
returns-clause-session g c =
    let changes = if_done c.next_frame.result c.unwrap-answer.result _ c.unwrap-answer.ensures c.next_frame.ensures.caches in
    record { unwinders = changes.unwinders; caches = changes.held }
