use Rattle.std.proofs.Common.{Vec, Global, [], ◌∷◌, sym, ap, ◌∙◌}
use Rattle.std.proofs.lemmas.List.{map-append}
use Rattle.unwind_run_document.specs.declared.command.StatedSection.{StatedSection as Section}
use Rattle.unwind_run_document.specs.Sections.{section_in}
use Rattle.json_program.specs.Decoded.{result_map}
use Rattle.unwind_run_document.specs.CommandViews.{section_view, sections_view}
use Rattle.json_program.proofs.Laws.{keep_fault-decoded}
use Rattle.json_program.proofs.Laws.{kept-good, kept-bad}
use Rattle.unwind_run_document.proofs.load.sections.Goals as goal
use Rattle.unwind_run_document.proofs.load.sections.Goals.{in-Ok+in_ok-push-in-Ok, in-Err}

pub loop-item-preserved : goal.loop-item-preserved
loop-item-preserved c =
    let before = c.loop-item.sections.items in
    elim c.match-branch-2.branch [
      | in-Ok+in_ok-push-in-Ok w ↦
          kept-good section_in _ _ c.item-item.result _ _ (sections_view before) _ (section_view w.in-Ok.section) _ c.loop-item-test.true c.item-item.is c.loop-item.invariant
          (sym (keep_fault-decoded section_view _ _ _ c.section_in.ensures (sym c.keep_fault.ensures ∙ c.in_ok-section.was)) ∙ ap (result_map section_view) w.in-Ok.is)
          (ap (λ (v : Vec Section Global). sections_view v.items) w.sections-is ∙ ap sections_view w.in_ok-push-in-Ok.ensures.items
          ∙ map-append section_view before (w.in-Ok.section ∷ []))
          w.fault-is
      | in-Err w ↦
          kept-bad section_in _ _ c.item-item.result _ _ (sections_view before) _ w.in-Err.name _ c.loop-item-test.true c.item-item.is c.loop-item.invariant
          (sym (keep_fault-decoded section_view _ _ _ c.section_in.ensures (sym c.keep_fault.ensures ∙ c.in_ok-section.was)) ∙ ap (result_map section_view) w.in-Err.is)
          (ap (λ (v : Vec Section Global). sections_view v.items) w.sections-is)
          (w.fault-is ∙ w.with_fault-fault.ensures)
    ]
