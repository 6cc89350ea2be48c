use Rattle.std.proofs.Common.{Vec, Global, ◌+◌, ◌∷◌, [], drop, sym, ap, subst, ◌∙◌, arith}
use Rattle.std.proofs.lemmas.List.{map-append}
use Rattle.serde_json.specs.View.{view, items_view}
use Rattle.unwind_run_document.specs.declared.command.Command.{Command}
use Rattle.unwind_run_document.specs.Commands.{command_in}
use Rattle.unwind_run_document.specs.Document.{commands_from, nothing_made}
use Rattle.json_program.specs.Faults.{in_unit}
use Rattle.json_program.specs.Decoded.{Decodes}
use Rattle.unwind_run_document.specs.CommandViews.{made_view, task_of, tasks_of}
use Rattle.json_program.proofs.Laws.{drop-element}
use Rattle.unwind_run_document.proofs.Tasks.{behind, behind-step, behind-refused}
use Rattle.json_program.proofs.Laws.{same_error, unit_answer-decoded, unit_answer-good}
use Rattle.unwind_run_document.proofs.document.commands.Goals as goal

pub returns-in_err-command : goal.returns-in_err-command
returns-in_err-command c =
    let l = c.loop-item in
    let vs = c.deref-item-items.result.now in
    let rest = items_view (drop (l.item-index + 1) vs) in
    let done = tasks_of l.commands.items in
    same_error _ _ c.in_err-command.field-0.0 _ c.from_residual.ensures.1
    (behind-refused c.args.arch task_of (λ (v : Vec Command Global). tasks_of v.items) _ done l.number (made_view l.made) (view c.item-item.result) rest c.in_err-command.field-0.0
    (sym (ap (λ vs. commands_from c.args.arch 1 nothing_made (items_view vs)) c.deref-item-items.ensures.value) ∙ l.invariant.same
    ∙ ap (λ ws. behind done (commands_from c.args.arch l.number (made_view l.made) (items_view ws))) (drop-element vs l.item-index c.item-item.result c.loop-item-test.true c.item-item.is))
    (subst (λ r. Decodes task_of r (in_unit l.number (command_in c.args.arch (made_view l.made) (view c.item-item.result)))) c.in_err-command.was
    (subst (λ r. Decodes task_of r (in_unit l.number (command_in c.args.arch (made_view l.made) (view c.item-item.result)))) (sym c.in_unit.ensures)
    (unit_answer-decoded task_of l.number _ _ c.command_in.ensures))))

pub loop-item-preserved : goal.loop-item-preserved
loop-item-preserved c =
    let l = c.loop-item in
    let vs = c.deref-item-items.result.now in
    let rest = items_view (drop (l.item-index + 1) vs) in
    let done = tasks_of l.commands.items in
    record {
      same =
          behind-step c.args.arch _ done _ l.number (made_view l.made) _ (view c.item-item.result) rest (task_of c.in_ok-command.command)
          (l.invariant.same
          ∙ ap (λ ws. behind done (commands_from c.args.arch l.number (made_view l.made) (items_view ws))) (drop-element vs l.item-index c.item-item.result c.loop-item-test.true c.item-item.is))
          (unit_answer-good task_of l.number _ _ _ c.command_in.ensures (sym c.in_unit.ensures ∙ c.in_ok-command.was))
          c.add.ensures.made
          (ap tasks_of c.in_ok-push.ensures.items ∙ map-append task_of l.commands.items (c.in_ok-command.command ∷ []));
      counted = omega (arith, l.invariant.counted);
      few_unwinders = omega (arith, l.invariant.few_unwinders, c.add.ensures.few_unwinders);
      few_caches = omega (arith, l.invariant.few_caches, c.add.ensures.few_caches);
    }
