use Rattle.std.proofs.Common.{◌∙◌, ◌<◌, ◌+◌, [], ◌∷◌, length, take, drop, ap, sym, subst, refl, arith}
use Rattle.std.proofs.lemmas.List.{drop-drop, drop-set-lt, length-set, take_more_set}
use Rattle.framehop_calls.specs.SampleWalks.{Passes, through, walk_in}
use Rattle.framehop_calls.proofs.Calls.{both_stay}
use Rattle.framehop_calls.proofs.Passing.{passes_both}
use Rattle.framehop_calls.proofs.sample_walks.walk_by_moves.Goals as goal

pub loop-count-preserved : goal.loop-count-preserved
loop-count-preserved g c =
    let l = c.loop-count in
    let address = c.in-Frame.address in
    let same = l.invariant.session in
    let within : l.count < length l.frames = omega (arith, c.loop-count-test.true) in
    let t = through g.A.ModuleUnwinding.meanings c.args.unwinder c.args.cache c.args.sample.now in
    let old = walk_in c.args.walk.now c.args.session.now in
    let new = walk_in c.move_on.new.walk c.move_on.new.session in
    record {
      room = let sized = length-set l.frames l.count address in omega (arith, sized, within);
      passed =
          subst (λ frames. Passes t old frames new) (sym (take_more_set l.frames l.count address within))
          (passes_both t old (walk_in l.walk l.session) new (take l.count l.frames) (address ∷ []) l.invariant.passed (
            new,
            c.in-Frame.ensures.moved,
            refl,
          ));
      kept =
          drop-set-lt (l.count + 1) l.frames l.count address (omega arith)
          ∙ sym (drop-drop 1 l.count l.frames) ∙ ap (drop 1) l.invariant.kept ∙ drop-drop 1 l.count c.args.frames.now;
      session = record {
        unwinders = c.move_on.ensures.session.unwinders ∙ same.unwinders;
        next = c.move_on.ensures.session.next ∙ same.next;
        held = c.move_on.ensures.session.held ∙ same.held;
      };
      there = both_stay _ _ c.args.unwinder c.args.cache c.move_on.ensures.session l.invariant.there;
    }

pub returns-in-Stops-clause-walked : goal.returns-in-Stops-clause-walked
returns-in-Stops-clause-walked g c =
    let l = c.loop-count in (walk_in l.walk l.session, l.invariant.passed, c.in-Stops.ensures.moved)
