use Rattle.std.proofs.Common.{◌≡◌, ◌∙◌, ap}
use Rattle.std.proofs.lemmas.Result.{IfOk-weaker}
use Rattle.framehop_loads.specs.UnwindData.{UnwindData, unwind_data_with}
use Rattle.framehop_loads.specs.declared.load_options.LoadOptions.{LoadOptions}
use Rattle.framehop_modules.specs.Sections.{Sections}
use Rattle.unwind_run_document.specs.CommandViews.{sections_view}
use Rattle.unwind_run_program.specs.SectionViews.{stated}
use Rattle.unwind_run_program.specs.Sections.{data_stated, sections_stated}
use Rattle.unwind_run_program.proofs.sections.ByWholeRowsVecU8DocumentModules.unwind_data.Goals as goal

pub returns : goal.returns
returns g c =
    let by : LoadOptions → Sections → UnwindData = λ options s. unwind_data_with options s in
    IfOk-weaker c.new.result
    (λ (unwind_data : UnwindData). unwind_data ≡ unwind_data_with c.options_on.result (stated c.new-info.result))
    (λ (unwind_data : UnwindData). unwind_data ≡ data_stated g.A.Tabulating.arch c.args.options c.args.base_svma (sections_view c.args.sections.items) (sections_view c.args.segments.items))
    (λ unwind_data is. is ∙ ap (λ (s : Sections). by c.options_on.result s) c.new-info.ensures
    ∙ ap (λ (o : LoadOptions). by o (sections_stated c.args.base_svma (sections_view c.args.sections.items) (sections_view c.args.segments.items))) c.options_on.ensures) c.new.ensures
