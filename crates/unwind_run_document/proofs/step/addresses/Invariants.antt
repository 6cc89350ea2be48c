use Rattle.std.proofs.Common.{◌≡◌, drop}
use Rattle.serde_json.specs.View.{items_view}
use Rattle.json_program.specs.Json.{address_value, list_of}
use Rattle.json_program.specs.Elements.{so_far, joined}
use Rattle.unwind_run_document.proofs.step.addresses.Given as goal

abbrev pub invariant-loop-item : goal.invariant-loop-item
invariant-loop-item l =
    list_of address_value (items_view l.item-items) ≡ joined (so_far l.fault l.addresses.items) (list_of address_value (items_view (drop l.item-index l.item-items)))
