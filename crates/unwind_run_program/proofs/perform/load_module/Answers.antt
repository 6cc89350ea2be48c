use Rattle.std.proofs.Common.{◌≡◌, ◌∙◌, subst}
use Rattle.framehop_histories.specs.Commands.{Load}
use Rattle.unwind_run_document.specs.CommandViews.{load_view}
use Rattle.unwind_run_program.specs.Outputs.{Outputs, output_of_act}
use Rattle.unwind_run_program.specs.Lines.{step_line}
use Rattle.unwind_run_program.specs.Text.{loaded_by}
use Rattle.unwind_run_program.proofs.perform.load_module.Goals as goal

pub returns : goal.returns
returns g c =
    let line = step_line g.A.DocumentModules.forms.text in
    let made = c.in_ok-module.ensures in
    let is : c.in_ok-module.module ≡ loaded_by g.A.DocumentModules.data_of (load_view c.args.load) = λ i. record {
      name = made.name i;
      start = made.start i;
      end = made.end i;
      base = made.base i;
      unwind_data = (made.unwind_data ∙ c.in_ok-unwind_data.ensures) i;
    } in
    subst (λ module_. Outputs (output_of_act g.A.ModuleUnwinding.meanings line (Load c.args.load.unwinder module_)) c.args.session.now c.load.new.session c.load.result)
    is (c.load.ensures.output line)
