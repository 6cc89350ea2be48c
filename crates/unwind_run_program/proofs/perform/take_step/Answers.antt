use Rattle.std.proofs.Common.{[], sym, ap, ◌∙◌}
use Rattle.std.specs.Prelude.{string_bytes}
use Rattle.framehop_unwinder.specs.Frames.{Frame, frame_of}
use Rattle.framehop_histories.specs.Commands.{Step, Stepped}
use Rattle.unwind_run_document.specs.CommandViews.{words_view}
use Rattle.unwind_run_program.specs.Lines.{step_line}
use Rattle.unwind_run_program.specs.Text.{frame_at, words_of}
use Rattle.unwind_run_program.proofs.Runs.{act_output, unknown_output}
use Rattle.unwind_run_program.proofs.StillCallback.{answers_always}
use Rattle.unwind_run_program.proofs.perform.take_step.Goals as goal

pub returns-in_ok-line-in-Stepped : goal.returns-in_ok-line-in-Stepped
returns-in_ok-line-in-Stepped g c = λ model at.
    let u = g.A.ModuleUnwinding in
    let forms = g.A.DocumentModules.forms in
    let step = c.args.step.now in
    let words = words_of (words_view step.stack) in
    let frame = frame_of c.frame_address-address.result in
    let regs = c.stated_registers-regs.result in
    let obeys = c.in-Stepped.ensures.obeys.said words (answers_always _ _ _ (λ at r next fits read. sym read.met.1.1) (λ at r next fits read. read.met.0)) in
    act_output u.takes_memory u.asks_memory u.meanings (Step step.unwinder step.cache frame regs words) (Step step.unwinder step.cache (frame_at step.kind step.address) (forms.stated step.registers) words)
    (step_line forms.text) model c.args.session.now c.step.new.session (Stepped c.in-Stepped.answer c.in-Stepped.regs) (string_bytes c.lines.result.text) c.lines.result.is_refused
    (ap (λ (f : Frame). Step step.unwinder step.cache f regs words) c.frame_address-address.ensures ∙ ap (λ (r : g.row.A-UnwindRegs.Denot). Step step.unwinder step.cache (frame_at step.kind step.address) r words) c.stated_registers-regs.ensures)
    at (obeys []) (ap string_bytes c.lines.ensures.text ∙ c.in_ok-line-in-Stepped.ensures.line) c.lines.ensures.refused

pub returns-in-Unknown : goal.returns-in-Unknown
returns-in-Unknown g c = λ model at.
    let u = g.A.ModuleUnwinding in
    let forms = g.A.DocumentModules.forms in
    let step = c.args.step.now in
    let words = words_of (words_view step.stack) in
    let frame = frame_of c.frame_address-address.result in
    let regs = c.stated_registers-regs.result in
    let obeys = c.in-Unknown.ensures.obeys.said words (answers_always _ _ _ (λ at r next fits read. sym read.met.1.1) (λ at r next fits read. read.met.0)) in
    unknown_output u.takes_memory u.asks_memory u.meanings (Step step.unwinder step.cache frame regs words) (Step step.unwinder step.cache (frame_at step.kind step.address) (forms.stated step.registers) words)
    (step_line forms.text) model c.args.session.now c.step.new.session c.unknown.result
    (ap (λ (f : Frame). Step step.unwinder step.cache f regs words) c.frame_address-address.ensures ∙ ap (λ (r : g.row.A-UnwindRegs.Denot). Step step.unwinder step.cache (frame_at step.kind step.address) r words) c.stated_registers-regs.ensures)
    at (obeys []) c.unknown.ensures.text c.unknown.ensures.refused
