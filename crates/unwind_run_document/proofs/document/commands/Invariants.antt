use Rattle.std.proofs.Common.{◌≡◌, ◌+◌, ◌≤◌, drop}
use Rattle.serde_json.specs.View.{items_view}
use Rattle.unwind_run_document.specs.Document.{commands_from, nothing_made}
use Rattle.unwind_run_document.specs.CommandViews.{made_view, tasks_of}
use Rattle.unwind_run_document.proofs.Tasks.{behind}
use Rattle.unwind_run_document.proofs.document.commands.Given as goal

abbrev pub invariant-loop-item : goal.invariant-loop-item
invariant-loop-item l = record {
  same : commands_from l.arch 1 nothing_made (items_view l.item-items) ≡ behind (tasks_of l.commands.items) (commands_from l.arch l.number (made_view l.made) (items_view (drop l.item-index l.item-items)));
  counted : l.number ≡ l.item-index + 1;
  few_unwinders : l.made.unwinders ≤ l.item-index;
  few_caches : l.made.caches ≤ l.item-index;
}
