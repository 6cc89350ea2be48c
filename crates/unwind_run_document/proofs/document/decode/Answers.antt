use Rattle.serde_json.specs.View.{items_view}
use Rattle.unwind_run_document.specs.Document.{nothing_made}
use Rattle.unwind_run_document.specs.CommandViews.{tasks_of}
use Rattle.unwind_run_document.proofs.Known.{commands_sound}
use Rattle.unwind_run_document.proofs.document.decode.Goals as goal

pub returns-clause-sound : goal.returns-clause-sound
returns-clause-sound c = commands_sound c.arch_of-arch.result 1 nothing_made (items_view c.in_ok-generation.items.now.items) (tasks_of c.in_ok-commands.commands.items) c.in_ok-commands.ensures
