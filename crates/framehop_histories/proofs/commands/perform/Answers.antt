use Rattle.std.proofs.Common.{◌≡◌, ◌∷◌, [], length, ap, arith, rules, refl}
use Rattle.std.proofs.lemmas.Result.{err_from_is_err_and}
use Rattle.framehop_registers.specs.Callback.{AnswersBy}
use Rattle.framehop_histories.specs.CommandViews.{OfCallback, walks_of}
use Rattle.framehop_histories.proofs.CommandLists.{all-parts, starts-out, goes-on, is-performed}
use Rattle.framehop_histories.proofs.commands.perform.Goals as goal

pub loop-command-init : goal.loop-command-init
loop-command-init g c =
    let u = g.A.ModuleUnwinding in
    record {
      callable = c.requires;
      room = omega (arith, c.in_ok-answers.ensures.len, c.in_ok-answers.ensures.capacity, c.len.ensures);
      under_way = starts-out u.takes_memory u.asks_memory u.meanings (AnswersBy (goal.F-step g)) c.args.session.now c.args.commands.now.items
          (walks_of c.new-walks.result.items) c.in_ok-answers.answers.items (ap walks_of c.new-walks.ensures.items) c.in_ok-answers.ensures.items;
    }

pub loop-command-preserved : goal.loop-command-preserved
loop-command-preserved g c =
    let u = g.A.ModuleUnwinding in
    let l = c.loop-command in
    let left = c.pop_front.new.self.items in
    let is : l.commands.items ≡ c.in-Some.command ∷ left = c.in-Some.ensures.items in
    record {
      callable = (all-parts (OfCallback (goal.F-IsAlwaysCallable g)) left l.commands.items c.in-Some.command is l.invariant.callable).1;
      room = omega (arith, l.invariant.room, c.push_reserved.ensures.len, c.push_reserved.ensures.capacity, ap length is);
      under_way = goes-on u.takes_memory u.asks_memory u.meanings (AnswersBy (goal.F-step g)) c.args.session.now c.args.commands.now.items
          l.session c.obey-answer.new.session (walks_of l.walks.items) (walks_of c.obey-answer.new.walks.items) c.in-Some.command l.commands.items left c.obey-answer.result l.answers.items c.push_reserved.new.self.items
          is c.push_reserved.ensures.items c.obey-answer.ensures l.invariant.under_way;
    }

pub returns-clause-performs : goal.returns-clause-performs
returns-clause-performs g c =
    let u = g.A.ModuleUnwinding in
    let l = c.loop-command in
    let none : l.commands.items ≡ [] = search rules in
    is-performed u.takes_memory u.asks_memory u.meanings (AnswersBy (goal.F-step g)) c.args.session.now c.args.commands.now.items l.session (walks_of l.walks.items) l.commands.items l.answers.items none l.invariant.under_way

-- memory for the list of answers is refused
pub returns-in_err-answers-clause-performs : goal.returns-in_err-answers-clause-performs
returns-in_err-answers-clause-performs g c = rw (err_from_is_err_and c.from_residual.result c.from_residual.ensures.1).1 tt

pub returns-in_err-answers-clause-performed : goal.returns-in_err-answers-clause-performed
returns-in_err-answers-clause-performed g c = rw (err_from_is_err_and c.from_residual.result c.from_residual.ensures.1).1 tt

pub returns-in_err-answers-clause-refused : goal.returns-in_err-answers-clause-refused
returns-in_err-answers-clause-refused g c = rw (err_from_is_err_and c.from_residual.result c.from_residual.ensures.1).1 refl

pub returns-in_err-answers-clause-waiting : goal.returns-in_err-answers-clause-waiting
returns-in_err-answers-clause-waiting g c = rw (err_from_is_err_and c.from_residual.result c.from_residual.ensures.1).1 refl
