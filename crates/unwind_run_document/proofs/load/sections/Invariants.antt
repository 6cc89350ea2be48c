use Rattle.std.proofs.Common.{◌≡◌, drop}
use Rattle.serde_json.specs.View.{items_view}
use Rattle.json_program.specs.Json.{list_of}
use Rattle.unwind_run_document.specs.Sections.{section_in}
use Rattle.unwind_run_document.specs.CommandViews.{sections_view}
use Rattle.json_program.specs.Elements.{so_far, joined}
use Rattle.unwind_run_document.proofs.load.sections.Given as goal

abbrev pub invariant-loop-item : goal.invariant-loop-item
invariant-loop-item l =
    list_of section_in (items_view l.item-items) ≡ joined (so_far l.fault (sections_view l.sections.items)) (list_of section_in (items_view (drop l.item-index l.item-items)))
