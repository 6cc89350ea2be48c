use Rattle.std.proofs.Common.{◌≡◌, ◌^◌, [], ◌∷◌, rules, sym, ap, ◌∙◌}
use Rattle.framehop_unwinder.specs.Frames.{frame_of}
use Rattle.framehop_unwinder.specs.Modules.{Loaded}
use Rattle.unwind_run_document.specs.CommandViews.{words_view}
use Rattle.unwind_run_program.specs.Roads.{address_behind, module_at}
use Rattle.unwind_run_program.specs.Text.{frame_at, words_of}
use Rattle.unwind_run_program.proofs.RoadLines.{if_ok_both, same_module}
use Rattle.unwind_run_program.proofs.StepLines.{line_judged, not_wanted}
use Rattle.unwind_run_program.proofs.StillCallback.{answers_always}
use Rattle.unwind_run_program.proofs.roads.road_line.Goals as goal

pub returns : goal.returns
returns g c =
    let m = g.A.ModuleUnwinding.meanings in
    let roads = c.args.roads.now in
    let base = roads.tables.base_svma in
    let words = words_of (words_view roads.stack) in
    let module_ = c.in_ok-module.module in
    let ends : c.saturating_add.result ≡ address_behind base (2 ^ 32) = search rules in
    let alone = same_module module_ base c.args.unwind_data (c.in_ok-module.ensures.name ∙ c.new.ensures.bytes) c.in_ok-module.ensures.start
    (c.in_ok-module.ensures.end ∙ ends) c.in_ok-module.ensures.base c.in_ok-module.ensures.unwind_data in
    if_ok_both c.step_line.result _ _ _
    (λ text line memory.
    line
    ∙ line_judged m g.A.DocumentModules.forms.text (module_at base c.args.unwind_data ∷ []) (module_ ∷ []) (frame_at roads.kind roads.address) (frame_of c.frame_address-address.result) (g.A.DocumentModules.forms.stated roads.registers) c.stated_registers-regs.result c.step_alone-answer.new.regs words c.step_alone-answer.result
    (ap (λ (one : Loaded g.row.A-UnwindData.Denot). one ∷ []) alone) c.frame_address-address.ensures c.stated_registers-regs.ensures
    (c.step_alone-answer.ensures.step.said words (answers_always _ _ _ (λ at r next fits read. sym read.met.1.1) (λ at r next fits read. read.met.0)) (not_wanted c.step_alone-answer.result memory)))
    c.step_line.ensures.line c.step_line.ensures.memory
