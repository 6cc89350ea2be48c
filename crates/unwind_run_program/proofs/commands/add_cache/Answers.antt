use Rattle.std.proofs.Common.{[], refl}
use Rattle.framehop_histories.specs.CommandViews.{reply_of}
use Rattle.framehop_histories.specs.Commands.{NewCache}
use Rattle.unwind_run_program.specs.Outputs.{without_walks}
use Rattle.unwind_run_program.proofs.Texts.{by-reply, is-in, stays-if-failed}
use Rattle.unwind_run_program.proofs.commands.add_cache.Goals as goal

pub returns-clause-output : goal.returns-clause-output
returns-clause-output g c =
    let u = g.A.ModuleUnwinding in
    by-reply u.takes_memory u.asks_memory u.meanings (NewCache c.args.slots) c.args.session.now c.new_cache-answer.new.session (reply_of c.new_cache-answer.result) c.of_answer.result
    (λ model. refl) (λ model at. c.new_cache-answer.ensures.obeys [] (without_walks model) (is-in model c.args.session.now at)) c.of_answer.ensures.written

pub returns-clause-refused : goal.returns-clause-refused
returns-clause-refused g c = stays-if-failed c.new_cache-answer.result c.args.session.now c.new_cache-answer.new.session c.of_answer.result c.of_answer.ensures.undone c.new_cache-answer.ensures.stays
