use Rattle.std.proofs.Common.{[]}
use Rattle.framehop_histories.specs.CommandViews.{reply_of}
use Rattle.framehop_histories.specs.Commands.{RemoveCache}
use Rattle.unwind_run_program.specs.Outputs.{without_walks}
use Rattle.unwind_run_program.proofs.Texts.{by-reply, is-in, stays-if-failed, remove_cache-plain}
use Rattle.unwind_run_program.proofs.commands.remove_cache.Goals as goal

pub returns-clause-output : goal.returns-clause-output
returns-clause-output g c =
    let u = g.A.ModuleUnwinding in
    by-reply u.takes_memory u.asks_memory u.meanings (RemoveCache c.args.cache) c.args.session.now c.remove_cache-answer.new.session (reply_of c.remove_cache-answer.result) c.of_answer.result
    (λ model. remove_cache-plain u.meanings c.args.cache (without_walks model)) (λ model at. c.remove_cache-answer.ensures.obeys [] (without_walks model) (is-in model c.args.session.now at)) c.of_answer.ensures.written

pub returns-clause-refused : goal.returns-clause-refused
returns-clause-refused g c = stays-if-failed c.remove_cache-answer.result c.args.session.now c.remove_cache-answer.new.session c.of_answer.result c.of_answer.ensures.undone c.remove_cache-answer.ensures.stays
