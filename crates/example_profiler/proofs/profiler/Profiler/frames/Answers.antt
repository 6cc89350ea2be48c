use Rattle.std.proofs.Common.{◌≡◌, ◌∙◌, ℕ, suc, ◌+◌, ◌-◌, [], ◌∷◌, ◌++◌, Some, None, Ok, Err, ap, sym, arith}
use Rattle.framehop_unwinder.specs.ByNumber.{held}
use Rattle.framehop_unwinder.specs.Frames.{frame_of}
use Rattle.framehop_unwinder.specs.IdViews.{has_cache, modules_by, unwinder_number}
use Rattle.framehop_unwinder.specs.Judge.{judge}
use Rattle.framehop_unwinder.specs.Trials.{wants_memory}
use Rattle.framehop_unwinder.specs.WalkViews.{frame_answer, walk_from, walk_of}
use Rattle.example_profiler.specs.Stacks.{frames_from, words_of}
use Rattle.example_profiler.specs.declared.profiler.TheConstants.{MOST_FRAMES}
use Rattle.example_profiler.proofs.Calls.{was-held}
use Rattle.example_profiler.proofs.FrameLaws.{breaks, ends, gives-up, goes-on}
use Rattle.example_profiler.proofs.MoveLaws.{frames-are, moved-as, not-wanted, same-address, was-followed}
use Rattle.example_profiler.proofs.ProcessLaws.{modules}
use Rattle.example_profiler.proofs.StillCallback.{answers_always}
use Rattle.example_profiler.proofs.profiler.Profiler.frames.Goals as goal

pub returns-in-Ok-None-clause-frames : goal.returns-in-Ok-None-clause-frames
returns-in-Ok-None-clause-frames g c =
    let m = g.A.ModuleUnwinding.meanings in
    let old = c.args.self.now.session in
    let number = unwinder_number c.args.process in
    let sample = c.args.sample.now in
    let words = words_of sample in
    let l = c.loop in
    let answer = c.in_ok-frame.field-0 in
    let judgment = judge m (modules_by old c.args.process) in
    let is = c.in-Ok-None.is ∙ ap (λ a. Ok a) c.in-Ok-None.field-0-is in
    let one-more : MOST_FRAMES - l.counter ≡ suc (MOST_FRAMES - (l.counter + 1)) = omega (arith, c.loop-test.true) in
    let moves = c.in_ok-frame.ensures.moved.said words (answers_always _ _ _ (λ at r next fits read. sym read.met.1.1) (λ at r next fits read. read.met.0)) in
    let made = moved-as m l.self.session.unwinders old.unwinders number words answer (Ok None) (walk_of l.walk) (walk_of c.next_frame.new.walk)
    l.invariant.unwinders (ap frame_answer is) (ap wants_memory is) moves in
    let there = was-followed l.self.session.unwinders old.unwinders number (has_cache l.self.session l.self.cache) l.invariant.unwinders
    (was-held _ c.next_frame.result _ _ answer c.next_frame.ensures.found c.in_ok-frame.was) in
    frames-are m old c.args.process sample c.args.regs _ there
    (ends judgment words (frames_from judgment words MOST_FRAMES (walk_from sample.ip c.args.regs)) l.frames.addresses.items (MOST_FRAMES - l.counter) (MOST_FRAMES - (l.counter + 1)) (walk_of l.walk)
    one-more l.invariant.passed (walk_of c.next_frame.new.walk) made)

pub returns-in_default : goal.returns-in_default
returns-in_default g c =
    let m = g.A.ModuleUnwinding.meanings in
    let old = c.args.self.now.session in
    let number = unwinder_number c.args.process in
    let sample = c.args.sample.now in
    let words = words_of sample in
    let l = c.loop in
    let answer = c.in_ok-frame.field-0 in
    let error = c.in-Err.error in
    let judgment = judge m (modules_by old c.args.process) in
    let one-more : MOST_FRAMES - l.counter ≡ suc (MOST_FRAMES - (l.counter + 1)) = omega (arith, c.loop-test.true) in
    let moves = c.in_ok-frame.ensures.moved.said words (answers_always _ _ _ (λ at r next fits read. sym read.met.1.1) (λ at r next fits read. read.met.0)) in
    let made = moved-as m l.self.session.unwinders old.unwinders number words answer (Err error) (walk_of l.walk) (walk_of c.next_frame.new.walk)
    l.invariant.unwinders (ap frame_answer c.in-Err.is) (ap wants_memory c.in-Err.is ∙ not-wanted error c.in_default.not-OutOfMemory) moves in
    let there = was-followed l.self.session.unwinders old.unwinders number (has_cache l.self.session l.self.cache) l.invariant.unwinders
    (was-held _ c.next_frame.result _ _ answer c.next_frame.ensures.found c.in_ok-frame.was) in
    record {
      frames = frames-are m old c.args.process sample c.args.regs _ there
          (ap (λ b. record { addresses = l.frames.addresses.items; is_complete = b }) l.invariant.incomplete
          ∙ breaks judgment words (frames_from judgment words MOST_FRAMES (walk_from sample.ip c.args.regs)) l.frames.addresses.items (MOST_FRAMES - l.counter) (MOST_FRAMES - (l.counter + 1)) (walk_of l.walk)
          one-more l.invariant.passed error (walk_of c.next_frame.new.walk) made);
      kept = λ process. ap (λ us. modules (held us (unwinder_number process))) (c.in_ok-frame.ensures.caches.unwinders ∙ l.invariant.unwinders);
    }

pub loop-preserved : goal.loop-preserved
loop-preserved g c =
    let m = g.A.ModuleUnwinding.meanings in
    let old = c.args.self.now.session in
    let number = unwinder_number c.args.process in
    let sample = c.args.sample.now in
    let words = words_of sample in
    let l = c.loop in
    let answer = c.in_ok-frame.field-0 in
    let frame = c.in-Ok-Some.frame in
    let addresses = l.frames.addresses.items in
    let judgment = judge m (modules_by old c.args.process) in
    let is = c.in-Ok-Some.is ∙ ap (λ a. Ok a) c.in-Ok-Some.field-0-is in
    let one-more : MOST_FRAMES - l.counter ≡ suc (MOST_FRAMES - (l.counter + 1)) = omega (arith, c.loop-test.true) in
    let moves = c.in_ok-frame.ensures.moved.said words (answers_always _ _ _ (λ at r next fits read. sym read.met.1.1) (λ at r next fits read. read.met.0)) in
    let made = moved-as m l.self.session.unwinders old.unwinders number words answer (Ok (Some (frame_of frame))) (walk_of l.walk) (walk_of c.next_frame.new.walk)
    l.invariant.unwinders (ap frame_answer is) (ap wants_memory is) moves in
    record {
      unwinders = c.in_ok-frame.ensures.caches.unwinders ∙ l.invariant.unwinders;
      incomplete = l.invariant.incomplete;
      passed = goes-on judgment words (frames_from judgment words MOST_FRAMES (walk_from sample.ip c.args.regs)) addresses (MOST_FRAMES - l.counter) (MOST_FRAMES - (l.counter + 1)) (walk_of l.walk)
          one-more l.invariant.passed (frame_of frame) (walk_of c.next_frame.new.walk) c.push.new.self.items made
          (c.in_ok-push-in-Ok-Some.ensures.items ∙ ap (λ (a : ℕ). addresses ++ a ∷ []) (c.address.ensures ∙ same-address frame));
      there = λ less. was-followed l.self.session.unwinders old.unwinders number (has_cache l.self.session l.self.cache) l.invariant.unwinders
          (was-held _ c.next_frame.result _ _ answer c.next_frame.ensures.found c.in_ok-frame.was);
    }

pub returns-clause-frames : goal.returns-clause-frames
returns-clause-frames g c =
    let m = g.A.ModuleUnwinding.meanings in
    let old = c.args.self.now.session in
    let sample = c.args.sample.now in
    let words = words_of sample in
    let l = c.loop in
    let judgment = judge m (modules_by old c.args.process) in
    let none : MOST_FRAMES - l.counter ≡ 0 = omega (arith, c.loop-test.false) in
    frames-are m old c.args.process sample c.args.regs _ (l.invariant.there (omega (arith, c.loop-test.false)))
    (ap (λ b. record { addresses = l.frames.addresses.items; is_complete = b }) l.invariant.incomplete
    ∙ gives-up judgment words (frames_from judgment words MOST_FRAMES (walk_from sample.ip c.args.regs)) l.frames.addresses.items (MOST_FRAMES - l.counter) (walk_of l.walk) none l.invariant.passed)
