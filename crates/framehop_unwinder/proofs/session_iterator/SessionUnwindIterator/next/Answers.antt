use Rattle.std.proofs.Common.{subst, Option, Result, refl}
use Rattle.std.specs.Prelude.{IfOk}
use Rattle.framehop_registers.specs.declared.code_address.FrameAddress.{FrameAddress}
use Rattle.framehop_registers.specs.declared.error.Error.{Error}
use Rattle.framehop_unwinder.specs.IdViews.{MovesBy, cache_number, modules_by, unwinder_number}
use Rattle.framehop_unwinder.specs.Judge.{judge}
use Rattle.framehop_unwinder.specs.Moves.{MoveWants, MovesOn}
use Rattle.framehop_unwinder.specs.Trials.{wants_memory}
use Rattle.framehop_unwinder.specs.WalkViews.{MovesAs, walk_of}
use Rattle.framehop_unwinder.specs.declared.ids.StaleId.{StaleId}
use Rattle.framehop_unwinder.proofs.EndingWalks.{both-stay, ends-as}
use Rattle.framehop_unwinder.proofs.HitReads.{on-ok}
use Rattle.framehop_unwinder.proofs.session_iterator.SessionUnwindIterator.next.Goals as goal

pub invariant_of-self : goal.invariant_of-self
invariant_of-self g c =
    let it = c.args.self.now in
    let moves = subst (λ (r : Result (Result (Option FrameAddress) Error) StaleId). IfOk r (λ answer. MovesBy g.A.ModuleUnwinding.meanings answer
    (walk_of it.on.walk).position it.on.unwinder it.on.cache it.session.now c.next_frame.new.self)) c.unwrap-answer.ensures c.next_frame.ensures.caches in
    record { held = both-stay _ it.session.now c.next_frame.new.self (unwinder_number it.on.unwinder) (cache_number it.on.cache) moves it.held }

pub returns-clause-moved : goal.returns-clause-moved
returns-clause-moved g c =
    let it = c.args.self.now in
    let moved = c.next_frame.ensures.moved in
    let judgment = judge g.A.ModuleUnwinding.meanings (modules_by it.session.now it.on.unwinder) in
    record {
      over = record {
        said = λ words answers. ends-as judgment words (walk_of it.on.walk) c.unwrap-answer.result (walk_of c.next_frame.new.walk) (walk_of c.end_at_null.new.walk)
            (subst (λ (r : Result (Result (Option FrameAddress) Error) StaleId). IfOk r (λ answer. MovesAs judgment words (walk_of it.on.walk) answer (walk_of c.next_frame.new.walk)))
            c.unwrap-answer.ensures (moved.said words answers)) c.end_at_null.ensures;
        still = moved.still;
      };
      order = on-ok c.next_frame.result c.unwrap-answer.result c.unwrap-answer.ensures c.next_frame.ensures.order;
    }

pub returns-clause-walk : goal.returns-clause-walk
returns-clause-walk g c =
    let it = c.args.self.now in
    record {
      unwinder = refl;
      cache = refl;
      moved = walk_of c.next_frame.new.walk;
      moves = subst (λ (r : Result (Result (Option FrameAddress) Error) StaleId). IfOk r (λ answer. MovesOn (walk_of it.on.walk) answer (walk_of c.next_frame.new.walk)))
          c.unwrap-answer.ensures c.next_frame.ensures.walk;
      ends = c.end_at_null.ensures;
    }

pub returns-clause-session : goal.returns-clause-session
returns-clause-session g c =
    let it = c.args.self.now in
    record {
      caches = subst (λ (r : Result (Result (Option FrameAddress) Error) StaleId). IfOk r (λ answer. MovesBy g.A.ModuleUnwinding.meanings answer
          (walk_of it.on.walk).position it.on.unwinder it.on.cache it.session.now c.next_frame.new.self)) c.unwrap-answer.ensures c.next_frame.ensures.caches;
      memory = subst (λ (r : Result (Result (Option FrameAddress) Error) StaleId). IfOk r (λ answer. MoveWants g.A.ModuleUnwinding.takes_memory g.A.ModuleUnwinding.asks_memory
          (modules_by it.session.now it.on.unwinder) (walk_of it.on.walk).position (wants_memory answer))) c.unwrap-answer.ensures c.next_frame.ensures.memory;
    }
