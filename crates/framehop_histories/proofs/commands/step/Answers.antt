use Rattle.std.proofs.Common.{subst, ◌≡◌, false, true}
use Rattle.std.specs.Prelude.{◌&&◌}
use Rattle.framehop_rules.specs.Outcome.{IsStep}
use Rattle.framehop_unwinder.specs.ByNumber.{is_held}
use Rattle.framehop_unwinder.specs.Frames.{frame_of}
use Rattle.framehop_unwinder.specs.IdViews.{unwinder_number}
use Rattle.framehop_unwinder.specs.Judge.{judge}
use Rattle.framehop_unwinder.specs.Memory.{WantsFrom}
use Rattle.framehop_unwinder.specs.State.{StepsThrough, modules_at}
use Rattle.framehop_unwinder.specs.Trials.{wants_memory}
use Rattle.framehop_histories.specs.CommandViews.{reply_of, walks_of}
use Rattle.framehop_histories.proofs.Obeyed.{both-left, both-right, step-gone, step-made, was-found}
use Rattle.framehop_histories.proofs.commands.step.Goals as goal

pub returns-in-Ok-clause-obeys : goal.returns-in-Ok-clause-obeys
returns-in-Ok-clause-obeys g c =
    let u = g.A.ModuleUnwinding in
    let m = u.meanings in
    let s = c.args.session.now in
    let new = c.step.new.self in
    let i = c.args.unwinder in
    let k = c.args.cache in
    let frame = frame_of c.args.address in
    let answer = c.in-Ok.answer in
    let e = c.in-Ok.ensures in
    let both = subst (λ x. (is_held s.unwinders x && is_held s.caches k) ≡ true) c.numbered-unwinder.ensures
    (subst (λ y. (is_held s.unwinders (unwinder_number c.numbered-unwinder.result) && is_held s.caches y) ≡ true) c.numbered-cache.ensures (was-found _ c.step.result _ _ answer c.step.ensures.found c.in-Ok.is)) in
    let caches = subst (λ x. StepsThrough m (wants_memory answer) frame x k s new) c.numbered-unwinder.ensures
    (subst (λ y. StepsThrough m (wants_memory answer) frame (unwinder_number c.numbered-unwinder.result) y s new) c.numbered-cache.ensures e.caches) in
    let memory = subst (λ x. WantsFrom u.takes_memory u.asks_memory (modules_at s x) frame (wants_memory answer)) c.numbered-unwinder.ensures e.memory in
    record {
      said = λ words answers walks.
          let judged = subst (λ x. wants_memory answer ≡ false → IsStep answer c.args.regs c.step.new.regs (judge m (modules_at s x) frame c.args.regs words)) c.numbered-unwinder.ensures (e.step.said words answers) in
          step-made u.takes_memory u.asks_memory m s new i k frame c.args.regs c.step.new.regs words answer (reply_of c.of_step.result)
          (both-left _ _ both) (both-right _ _ both) caches c.of_step.ensures.wanted c.of_step.ensures.answered memory judged (walks_of walks);
      still = e.step.still;
    }

pub returns-in-Err-clause-obeys : goal.returns-in-Err-clause-obeys
returns-in-Err-clause-obeys g c =
    let u = g.A.ModuleUnwinding in
    let s = c.args.session.now in
    let k = c.args.cache in
    let e = c.in-Err.ensures in
    let gone = subst (λ x. (is_held s.unwinders x && is_held s.caches k) ≡ false) c.numbered-unwinder.ensures
    (subst (λ y. (is_held s.unwinders (unwinder_number c.numbered-unwinder.result) && is_held s.caches y) ≡ false) c.numbered-cache.ensures e.found.only) in
    record {
      said = λ words answers walks. step-gone u.takes_memory u.asks_memory u.meanings s c.step.new.self c.args.unwinder k (frame_of c.args.address) c.args.regs words gone e.found.same (walks_of walks);
      still = e.step.still;
    }
