use Rattle.std.proofs.Common.{Result, ap, ◌∙◌}
use Rattle.dwarf_constants.specs.declared.error.Error.{Error}
use Rattle.dwarf_readers.specs.Stretch.{◌>>=◌}
use Rattle.dwarf_frame_rows.specs.FrameSection.{FrameSection}
use Rattle.dwarf_frame_entries.specs.Entries.{PartialFde, fde_of}
use Rattle.dwarf_frame_entries.proofs.CieReaders.{may-give-same, reads-of}
use Rattle.dwarf_frame_entries.proofs.EntryOffsets.{partial_of_section}
use Rattle.dwarf_frame_entries.proofs.section.UnwindSection.fde_from_offset.Goals as goal

pub returns : goal.returns
returns g c =
    let section = g.Self._UnwindSectionPrivate.frame c.args.self.now c.args.bases.now in
    let framed = g.met.Self._UnwindSectionPrivate.framed in
    let partial = c.in_ok-partial.partial in
    let there = c.in_ok-partial.ensures in
    let within = partial_of_section section (g.Self.Offset.UnwindOffset.number c.args.offset) partial there in
    let is = ap (λ (read : Result PartialFde Error). read >>= fde_of section.limit section.kind) there
    ∙ ap (λ (f : FrameSection). fde_of f.limit f.kind partial) (framed c.args.self.now c.args.bases.now) in
    λ may_allocate h. may-give-same may_allocate (λ fde. fde) c.parse.result _ _ is (c.parse.ensures may_allocate
    (reads-of framed (goal.F-step g) g.R.Reader.stretch g.R.Offset.ReaderOffset.value g.Self.Offset.UnwindOffset.number c.args.self.now c.args.bases.now partial c.args.get_cie may_allocate within h))
