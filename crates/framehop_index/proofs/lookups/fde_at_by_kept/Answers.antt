-- What is kept of the CIE that an FDE names is kept of a CIE of the section in which the FDE is read.
use Rattle.std.proofs.Common.{◌≡◌, ap, subst, sym, ◌∙◌}
use Rattle.dwarf_frame_rows.specs.FrameSection.{FrameSection}
use Rattle.dwarf_frame_entries.specs.KeptCies.{IsKeptAt}
use Rattle.dwarf_frame_entries.specs.SectionWithin.{section_within}
use Rattle.framehop_index.proofs.KeptCies.{found-at}
use Rattle.framehop_index.proofs.PartialFdes.{read-in}
use Rattle.framehop_index.proofs.lookups.fde_at_by_kept.Goals as goal

pub parse_by_kept-requires : goal.parse_by_kept-requires
parse_by_kept-requires g c =
    let section : FrameSection = g.Section._UnwindSectionPrivate.frame c.args.section.now c.args.bases.now in
    let partial = c.in_ok-partial.partial in
    let framed = g.met.Section._UnwindSectionPrivate.framed c.args.section.now c.args.bases.now in
    let within = read-in section (g.Section.Offset.UnwindOffset.number c.typed_offset-offset.result) partial c.in_ok-partial.ensures in
    let named = section_within g.R.Offset.ReaderOffset.limit g.Section._UnwindSectionPrivate.kind in
    let same : section ≡ named partial.within = framed ∙ ap named (sym (within ∙ ap (λ (f : FrameSection). f.within) framed)) in
    let found = rw c.in-Some.is at c.at.ensures in
    let kept = found-at section c.into_u64.result c.args.cies.now.cies.items c.in-Some.kept.now (sym found) c.requires.own in
    subst (λ (s : FrameSection). IsKeptAt s partial.cie_offset c.in-Some.kept.now) same (rw (c.into_u64.ensures.value, c.into.ensures, c.cie_offset.ensures) at kept)
