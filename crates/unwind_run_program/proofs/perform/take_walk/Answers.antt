use Rattle.std.proofs.Common.{sym, subst}
use Rattle.std.specs.Prelude.{IfOk, string_bytes}
use Rattle.unwind_run_program.specs.Outputs.{IsOutput, output_of_walk}
use Rattle.unwind_run_document.specs.CommandViews.{words_view}
use Rattle.unwind_run_program.specs.Text.{words_of}
use Rattle.unwind_run_program.proofs.StillCallback.{answers_always}
use Rattle.unwind_run_program.proofs.perform.take_walk.Goals as goal

pub returns : goal.returns
returns g c = λ model at.
    let m = g.A.ModuleUnwinding.meanings in
    let walk = c.args.walk.now in
    let words = words_of (words_view walk.stack) in
    subst (λ (r : g.row.A-UnwindRegs.Denot). IfOk c.walk.result (λ written. IsOutput (output_of_walk m words walk.limit walk.unwinder walk.cache walk.pc r model) (string_bytes written.text) written.is_refused c.walk.new.session))
    c.stated_registers.ensures
    (c.walk.ensures.output words (answers_always _ _ _ (λ at r next fits read. sym read.met.1.1) (λ at r next fits read. read.met.0)) model at)
