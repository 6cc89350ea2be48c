use Rattle.std.proofs.Common.{[]}
use Rattle.framehop_histories.specs.CommandViews.{reply_of}
use Rattle.framehop_histories.specs.Commands.{Load}
use Rattle.unwind_run_program.specs.Outputs.{without_walks}
use Rattle.unwind_run_program.proofs.Texts.{by-reply, is-in, stays-if-failed, load-plain}
use Rattle.unwind_run_program.proofs.commands.load.Goals as goal

pub returns-clause-output : goal.returns-clause-output
returns-clause-output g c =
    let u = g.A.ModuleUnwinding in
    by-reply u.takes_memory u.asks_memory u.meanings (Load c.args.unwinder c.args.module) c.args.session.now c.load-answer.new.session (reply_of c.load-answer.result) c.of_answer.result
    (λ model. load-plain u.meanings c.args.unwinder c.args.module (without_walks model)) (λ model at. c.load-answer.ensures.obeys [] (without_walks model) (is-in model c.args.session.now at)) c.of_answer.ensures.written

pub returns-clause-refused : goal.returns-clause-refused
returns-clause-refused g c = stays-if-failed c.load-answer.result c.args.session.now c.load-answer.new.session c.of_answer.result c.of_answer.ensures.undone c.load-answer.ensures.stays
