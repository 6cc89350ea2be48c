use Rattle.std.proofs.Common.{◌≡◌, ◌∙◌, ℕ, suc, ◌+◌, ◌-◌, List, [], ◌∷◌, ◌++◌, false, Option, Some, None, Result, Ok, Err, refl, sym, ap, arith}
use Rattle.framehop_registers.specs.declared.error.Error.{Error}
use Rattle.framehop_unwinder.specs.EndingWalks.{EndsAs, ending}
use Rattle.framehop_unwinder.specs.Frames.{Frame, frame_of}
use Rattle.framehop_unwinder.specs.IdViews.{modules_by, unwinder_number}
use Rattle.framehop_unwinder.specs.Judge.{judge}
use Rattle.framehop_unwinder.specs.State.{unwinder_at}
use Rattle.framehop_unwinder.specs.Trials.{wants_memory}
use Rattle.framehop_unwinder.specs.WalkViews.{frame_answer, walk_of}
use Rattle.test_framehop.specs.Callers.{addresses_from}
use Rattle.test_framehop.proofs.Addresses.{begins, breaks, ends, gives-up, goes-on, moved-as, not-wanted, same-address}
use Rattle.test_framehop.proofs.callers.addresses_of.Goals as goal

pub loop-init : goal.loop-init
loop-init g c =
    let old = c.args.frames.now in
    let all : c.args.most - 0 ≡ c.args.most = omega arith in
    record {
      callable = c.requires;
      unwinders = refl;
      unwinder = refl;
      answers = λ words answers. answers;
      passed = λ words answers. begins (judge g.A.ModuleUnwinding.meanings (modules_by old.session.now old.on.unwinder)) words c.args.most (c.args.most - 0) c.new-addresses.result.items (walk_of old.on.walk)
          all c.new-addresses.ensures.items;
    }

pub next-requires : goal.next-requires
next-requires g c = c.loop.invariant.callable

pub returns-in-Ok-None-clause-addresses : goal.returns-in-Ok-None-clause-addresses
returns-in-Ok-None-clause-addresses g c =
    let m = g.A.ModuleUnwinding.meanings in
    let old = c.args.frames.now in
    let l = c.loop in
    let judgment = judge m (modules_by old.session.now old.on.unwinder) in
    let is = c.in-Ok-None.is ∙ ap (λ a. Ok a) c.in-Ok-None.field-0-is in
    let one-more : c.args.most - l.counter ≡ suc (c.args.most - (l.counter + 1)) = omega (arith, c.loop-test.true) in
    λ words answers.
    ends judgment words (addresses_from judgment words c.args.most (walk_of old.on.walk)) l.addresses.items (c.args.most - l.counter) (c.args.most - (l.counter + 1)) (walk_of l.frames.on.walk)
    one-more (l.invariant.passed words answers) (walk_of c.next.new.self.on.walk)
    (moved-as m l.frames.session.now.unwinders old.session.now.unwinders (unwinder_number l.frames.on.unwinder) (unwinder_number old.on.unwinder) words c.next.result (Ok None) (walk_of l.frames.on.walk) (walk_of c.next.new.self.on.walk)
    l.invariant.unwinders (ap unwinder_number l.invariant.unwinder) (ap frame_answer is) (ap wants_memory is) (c.next.ensures.moved.over.said words (l.invariant.answers words answers)))

pub returns-in_default : goal.returns-in_default
returns-in_default g c =
    let m = g.A.ModuleUnwinding.meanings in
    let old = c.args.frames.now in
    let l = c.loop in
    let error = c.in-Err.error in
    let judgment = judge m (modules_by old.session.now old.on.unwinder) in
    let one-more : c.args.most - l.counter ≡ suc (c.args.most - (l.counter + 1)) = omega (arith, c.loop-test.true) in
    record {
      callable = c.next.ensures.callable;
      addresses = λ words answers.
          breaks judgment words (addresses_from judgment words c.args.most (walk_of old.on.walk)) l.addresses.items (c.args.most - l.counter) (c.args.most - (l.counter + 1)) (walk_of l.frames.on.walk)
          one-more (l.invariant.passed words answers) error (walk_of c.next.new.self.on.walk)
          (moved-as m l.frames.session.now.unwinders old.session.now.unwinders (unwinder_number l.frames.on.unwinder) (unwinder_number old.on.unwinder) words c.next.result (Err error) (walk_of l.frames.on.walk) (walk_of c.next.new.self.on.walk)
          l.invariant.unwinders (ap unwinder_number l.invariant.unwinder) (ap frame_answer c.in-Err.is) (ap wants_memory c.in-Err.is ∙ not-wanted error c.in_default.not-OutOfMemory)
          (c.next.ensures.moved.over.said words (l.invariant.answers words answers)));
    }

pub loop-preserved : goal.loop-preserved
loop-preserved g c =
    let m = g.A.ModuleUnwinding.meanings in
    let old = c.args.frames.now in
    let l = c.loop in
    let frame = c.in-Ok-Some.frame in
    let addresses = l.addresses.items in
    let judgment = judge m (modules_by old.session.now old.on.unwinder) in
    let is = c.in-Ok-Some.is ∙ ap (λ a. Ok a) c.in-Ok-Some.field-0-is in
    let one-more : c.args.most - l.counter ≡ suc (c.args.most - (l.counter + 1)) = omega (arith, c.loop-test.true) in
    record {
      callable = c.next.ensures.callable;
      unwinders = c.next.ensures.session.caches.unwinders ∙ l.invariant.unwinders;
      unwinder = c.next.ensures.walk.unwinder ∙ l.invariant.unwinder;
      answers = λ words answers. c.next.ensures.moved.over.still words (l.invariant.answers words answers);
      passed = λ words answers.
          goes-on judgment words (addresses_from judgment words c.args.most (walk_of old.on.walk)) addresses (c.args.most - l.counter) (c.args.most - (l.counter + 1)) (walk_of l.frames.on.walk)
          one-more (l.invariant.passed words answers) (frame_of frame) (walk_of c.next.new.self.on.walk) c.push.new.self.items
          (moved-as m l.frames.session.now.unwinders old.session.now.unwinders (unwinder_number l.frames.on.unwinder) (unwinder_number old.on.unwinder) words c.next.result (Ok (Some (frame_of frame))) (walk_of l.frames.on.walk) (walk_of c.next.new.self.on.walk)
          l.invariant.unwinders (ap unwinder_number l.invariant.unwinder) (ap frame_answer is) (ap wants_memory is) (c.next.ensures.moved.over.said words (l.invariant.answers words answers)))
          (c.in_ok-push-in-Ok-Some.ensures.items ∙ ap (λ (a : ℕ). addresses ++ a ∷ []) (c.address.ensures ∙ same-address frame));
    }

pub returns-clause-addresses : goal.returns-clause-addresses
returns-clause-addresses g c =
    let m = g.A.ModuleUnwinding.meanings in
    let old = c.args.frames.now in
    let l = c.loop in
    let judgment = judge m (modules_by old.session.now old.on.unwinder) in
    let none : c.args.most - l.counter ≡ 0 = omega (arith, c.loop-test.false) in
    λ words answers. gives-up judgment words (addresses_from judgment words c.args.most (walk_of old.on.walk)) l.addresses.items (c.args.most - l.counter) (walk_of l.frames.on.walk) none (l.invariant.passed words answers)
