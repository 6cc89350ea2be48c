use Rattle.framehop_unwinder.specs.IdViews.{modules_by}
use Rattle.framehop_unwinder.specs.Judge.{judge}
use Rattle.framehop_calls.specs.Samples.{words_of}
use Rattle.framehop_calls.specs.SampleWalks.{through, walk_of}
use Rattle.framehop_calls.specs.declared.sample_walks.WalkPlace.TheVariants as place
use Rattle.framehop_calls.proofs.Moves.{begins, counts-answered, counts-start, goes-on, needs-none, wants-none}
use Rattle.framehop_calls.proofs.sample_walks.move_on.Goals as goal

pub returns-in-Starts-clause-moved : goal.returns-in-Starts-clause-moved
returns-in-Starts-clause-moved g c =
    let walk = c.args.walk.now in
    let m = g.A.ModuleUnwinding.meanings in
    let new = walk_of (record { place = place.At c.from_instruction_pointer.result; regs = walk.regs }) in (
      begins (judge m (modules_by c.args.session.now c.args.unwinder)) (words_of c.args.sample.now) walk.place walk.regs
          c.in-Starts.pc c.from_instruction_pointer.result c.in-Starts.is c.from_instruction_pointer.ensures,
      counts-start (through m c.args.unwinder c.args.cache c.args.sample.now) walk.place walk.regs c.args.session.now new c.in-Starts.pc c.in-Starts.is,
    )

pub returns-in-Answered-clause-moved : goal.returns-in-Answered-clause-moved
returns-in-Answered-clause-moved g c =
    let walk = c.args.walk.now in
    let m = g.A.ModuleUnwinding.meanings in
    let new = walk_of c.go_by.new.self in
    let address = c.in-At.address in
    let answer = c.in-Answered.answer in (
      goes-on (judge m (modules_by c.args.session.now c.args.unwinder)) (words_of c.args.sample.now) walk.place walk.regs
          address answer c.step_in_sample.new.regs c.go_by.result new c.in-At.is c.in-Answered.ensures.step c.go_by.ensures,
      counts-answered (through m c.args.unwinder c.args.cache c.args.sample.now) walk.place walk.regs c.args.session.now c.step_in_sample.new.session new
          address answer c.go_by.result _ c.in-At.is c.go_by.ensures c.in-Answered.ensures.caches,
    )

pub returns-in-Answered-clause-needs : goal.returns-in-Answered-clause-needs
returns-in-Answered-clause-needs g c = needs-none c.args.sample.now c.in-Answered.answer c.go_by.result _ _ c.go_by.ensures

pub returns-in-Answered-clause-memory : goal.returns-in-Answered-clause-memory
returns-in-Answered-clause-memory g c = λ never. wants-none c.in-Answered.answer c.go_by.result _ _ (c.in-Answered.ensures.memory never) c.go_by.ensures
