use Rattle.std.proofs.Common.{ap, ◌∙◌}
use Rattle.dwarf_frame_rows.specs.FrameSection.{FrameSection}
use Rattle.dwarf_frame_entries.proofs.EntryOffsets.{partial_of_section}
use Rattle.dwarf_frame_entries.proofs.known_cies.KnownCies.fde_from_offset.Goals as goal

pub fde-requires : goal.fde-requires
fde-requires g c =
    let inside = c.self.inside in
    partial_of_section (g.Section._UnwindSectionPrivate.frame inside.section inside.bases.now) (g.Section.Offset.UnwindOffset.number c.args.offset) c.in_ok-partial.partial c.in_ok-partial.ensures
    ∙ ap (λ (f : FrameSection). f.within) (g.met.Section._UnwindSectionPrivate.framed inside.section inside.bases.now)
    ∙ c.self.view_is
