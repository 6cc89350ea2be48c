use Rattle.std.proofs.Common.{ap, ◌∙◌}
use Rattle.framehop_unwinder.specs.WalkViews.{walk_of}
use Rattle.sample_stacks.specs.SampleWalks.{interrupted_at, moved_in, next_of, resumed}
use Rattle.sample_stacks.proofs.MoveLaws.{resumes}
use Rattle.sample_stacks.proofs.walks.next_frame.Goals as goal

pub returns-clause-next : goal.returns-clause-next
returns-clause-next g c =
    let samples = g.A.SampleArch.samples in
    let copy = c.args.copy.now in
    let made = moved_in samples c.args.session.now c.args.unwinder copy (walk_of c.args.walk.now) in
    let moved = c.next_move-next.ensures.next in
    record {
      next_is = moved.next_is;
      walk_is = resumes copy.start (interrupted_at samples copy (g.C.ProcessCode.code c.args.code.now)) made (walk_of c.next_move-next.new.walk) _ _
          moved.next_is moved.walk_is c.resume.ensures;
    }
