use Rattle.std.proofs.Common.{ap, sym, ◌∙◌}
use Rattle.framehop_unwinder.specs.WalkViews.{walk_of}
use Rattle.sample_stacks.specs.SampleWalks.{begun_or, interrupted_at}
use Rattle.sample_stacks.proofs.MoveLaws.{resumed-at}
use Rattle.sample_stacks.proofs.walks.resume.Goals as goal

pub returns-in-Some : goal.returns-in-Some
returns-in-Some g c =
    let walk = walk_of c.args.walk.now in
    let interrupted = interrupted_at g.A.SampleArch.samples c.args.copy.now (g.C.ProcessCode.code c.args.code.now) in
    c.new.ensures ∙ sym (resumed-at interrupted c.args.next walk c.in-Frame.address c.address.result c.regs.result c.interrupted_at.result
    c.in-Frame.is c.address.ensures c.regs.ensures c.interrupted_at.ensures ∙ ap (begun_or walk) c.in-Some.is)

pub returns-in-None : goal.returns-in-None
returns-in-None g c =
    let walk = walk_of c.args.walk.now in
    let interrupted = interrupted_at g.A.SampleArch.samples c.args.copy.now (g.C.ProcessCode.code c.args.code.now) in
    sym (resumed-at interrupted c.args.next walk c.in-Frame.address c.address.result c.regs.result c.interrupted_at.result
    c.in-Frame.is c.address.ensures c.regs.ensures c.interrupted_at.ensures ∙ ap (begun_or walk) c.in-None.is)
