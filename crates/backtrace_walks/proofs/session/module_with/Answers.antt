use Rattle.std.proofs.Common.{ap, ◌∙◌}
use Rattle.backtrace_files.specs.FileViews.{code_seen}
use Rattle.core_files.specs.FileViews.{mapping_of}
use Rattle.framehop_loads.specs.UnwindData.{unwind_data_with}
use Rattle.backtrace_walks.specs.Modules.{options_of_files}
use Rattle.backtrace_walks.proofs.ProcessLaws.{module_is}
use Rattle.backtrace_walks.proofs.session.module_with.Goals as goal

pub returns : goal.returns
returns c =
    let made = c.in_ok-module.ensures in
    module_is c.in_ok-module.module (mapping_of c.args.mapping.now) (code_seen c.args.code.now)
    (made.name ∙ c.new-name.ensures.bytes) made.start made.end made.base (made.unwind_data ∙ ap (unwind_data_with options_of_files) c.new-sections.ensures)
