use Rattle.std.proofs.Common.{ap, sym, ◌∙◌}
use Rattle.framehop_loads.specs.UnwindDataViews.{format_view}
use Rattle.framehop_loads.specs.UnwindKinds.{left_out_of, left_out_of_section}
use Rattle.framehop_loads.specs.declared.unwind_data.ModuleFormat.{ModuleFormat}
use Rattle.framehop_loads.proofs.unwind_kind.left_out_of.Goals as goal

pub returns-in-CallFrames : goal.returns-in-CallFrames
returns-in-CallFrames g c =
    c.left_out_of_section.ensures ∙ ap left_out_of_section c.main.ensures
    ∙ ap (λ (format : ModuleFormat g.row.D.Denot). left_out_of (format_view g.D.SectionBytes.content format)) (sym c.in-CallFrames.is)
