use Rattle.std.proofs.Common.{subst, sym, ◌≡◌, ◌∙◌, ◌<◌, ◌≤◌, arith, false, length, true}
use Rattle.std.specs.Prelude.{◌&&◌}
use Rattle.framehop_unwinder.specs.ByNumber.{is_held}
use Rattle.framehop_unwinder.specs.IdViews.{unwinder_number}
use Rattle.framehop_unwinder.specs.Judge.{judge}
use Rattle.framehop_unwinder.specs.Moves.{MoveWants}
use Rattle.framehop_unwinder.specs.State.{MovesThrough, modules_at}
use Rattle.framehop_unwinder.specs.Trials.{wants_memory}
use Rattle.framehop_unwinder.specs.WalkViews.{MovesAs, place_of, walk_of}
use Rattle.framehop_histories.specs.CommandViews.{reply_of, walks_of}
use Rattle.framehop_histories.proofs.Obeyed.{both-left, both-right, move-done, move-gone, move-unless-walk, was-found}
use Rattle.framehop_histories.proofs.commands.next_frame.Goals as goal

pub returns-in-Ok-clause-obeys : goal.returns-in-Ok-clause-obeys
returns-in-Ok-clause-obeys g c =
    let u = g.A.ModuleUnwinding in
    let m = u.meanings in
    let s = c.args.session.now in
    let new = c.next_frame.new.self in
    let i = c.args.unwinder in
    let k = c.args.cache in
    let old = c.index_mut-walk.result.now in
    let next = c.next_frame.new.walk in
    let answer = c.in-Ok.answer in
    let e = c.in-Ok.ensures in
    let here : c.args.walk < length c.args.walks.now.items = omega (arith, c.len.ensures, c.if-walk-len.false) in
    let both = subst (λ x. (is_held s.unwinders x && is_held s.caches k) ≡ true) c.numbered-unwinder.ensures
    (subst (λ y. (is_held s.unwinders (unwinder_number c.numbered-unwinder.result) && is_held s.caches y) ≡ true) c.numbered-cache.ensures (was-found _ c.next_frame.result _ _ answer c.next_frame.ensures.found c.in-Ok.is)) in
    let caches = subst (λ x. MovesThrough m (wants_memory answer) (place_of old.state) x k s new) c.numbered-unwinder.ensures
    (subst (λ y. MovesThrough m (wants_memory answer) (place_of old.state) (unwinder_number c.numbered-unwinder.result) y s new) c.numbered-cache.ensures e.caches) in
    let memory = subst (λ x. MoveWants u.takes_memory u.asks_memory (modules_at s x) (place_of old.state) (wants_memory answer)) c.numbered-unwinder.ensures e.memory in
    record {
      said = λ words answers.
          let moved = subst (λ x. MovesAs (judge m (modules_at s x)) words (walk_of old) answer (walk_of next)) c.numbered-unwinder.ensures (e.moved.said words answers) in
          move-done u.takes_memory u.asks_memory m s new c.args.walks.now.items i k c.args.walk old next words answer (reply_of c.of_move.result)
          (both-left _ _ both) (both-right _ _ both) here c.index_mut-walk.ensures.value caches c.of_move.ensures.wanted (λ no. rw (c.regs.ensures) at (c.of_move.ensures.answered no)) memory e.walk.wanting moved;
      still = e.moved.still;
    }

pub returns-then-not-has-clause-obeys : goal.returns-then-not-has-clause-obeys
returns-then-not-has-clause-obeys g c =
    let u = g.A.ModuleUnwinding in
    let s = c.args.session.now in
    let gone = subst (λ x. (is_held s.unwinders x && is_held s.caches c.args.cache) ≡ false) c.numbered-unwinder.ensures
    (subst (λ y. (is_held s.unwinders (unwinder_number c.numbered-unwinder.result) && is_held s.caches y) ≡ false) c.numbered-cache.ensures (sym c.has.ensures ∙ c.if-not-has.true)) in
    record {
      said = λ words answers. move-gone u.takes_memory u.asks_memory u.meanings s (walks_of c.args.walks.now.items) c.args.unwinder c.args.cache c.args.walk words gone;
      still = λ words answers. answers;
    }

pub returns-then-walk-len-clause-obeys : goal.returns-then-walk-len-clause-obeys
returns-then-walk-len-clause-obeys g c =
    let u = g.A.ModuleUnwinding in
    let s = c.args.session.now in
    let past : length c.args.walks.now.items ≤ c.args.walk = omega (arith, c.len.ensures, c.if-walk-len.true) in
    let both = subst (λ x. (is_held s.unwinders x && is_held s.caches c.args.cache) ≡ true) c.numbered-unwinder.ensures
    (subst (λ y. (is_held s.unwinders (unwinder_number c.numbered-unwinder.result) && is_held s.caches y) ≡ true) c.numbered-cache.ensures (sym c.has.ensures ∙ c.if-not-has.false)) in
    record {
      said = λ words answers. move-unless-walk u.takes_memory u.asks_memory u.meanings s c.args.walks.now.items c.args.unwinder c.args.cache c.args.walk words (both-left _ _ both) (both-right _ _ both) past;
      still = λ words answers. answers;
    }
