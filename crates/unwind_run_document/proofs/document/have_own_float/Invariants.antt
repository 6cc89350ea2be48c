use Rattle.std.proofs.Common.{◌≡◌}
use Rattle.serde_json.specs.View.{members_view}
use Rattle.unwind_run_document.specs.Document.{have_own_float}
use Rattle.unwind_run_document.proofs.document.have_own_float.Given as goal

abbrev pub invariant-loop-name : goal.invariant-loop-name
invariant-loop-name l = have_own_float (members_view l.members.entries) ≡ have_own_float (members_view l.name-iterator)
