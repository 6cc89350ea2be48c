use Rattle.std.proofs.Common.{◌≡◌, ap, subst, ◌∙◌}
use Rattle.dwarf_frame_rows.specs.FrameSection.{FrameSection, SectionContents, section_data}
use Rattle.dwarf_frame_entries.specs.Entries.{cie_from_offset}
use Rattle.dwarf_frame_entries.specs.EntryViews.{GivesCie}
use Rattle.dwarf_frame_entries.specs.KnownCies.{IsReadAt}
use Rattle.dwarf_frame_entries.specs.SectionWithin.{section_within}
use Rattle.dwarf_frame_entries.proofs.Kept.{after-insert}
use Rattle.dwarf_frame_entries.proofs.known_cies.KnownCies.kept_cie.Goals as goal

pub invariant_of-self : goal.invariant_of-self
invariant_of-self g c =
    let stretch = g.R.Reader.stretch in
    let value = g.R.Offset.ReaderOffset.value in
    let inside = c.self.inside in
    let section : FrameSection = section_within g.R.Offset.ReaderOffset.limit g.Section._UnwindSectionPrivate.kind
    (section_data (g.Section._UnwindSectionPrivate.size inside.section) (stretch (g.Section._UnwindSectionPrivate.reader inside.section)) inside.bases.now) in
    let at : c.into_u64-number.result ≡ g.Section.Offset.UnwindOffset.number c.args.offset = c.into_u64-number.ensures.value ∙ c.into.ensures in
    let read = rw (g.met.Section._UnwindSectionPrivate.framed inside.section inside.bases.now) at c.cie_from_offset-cie.ensures in
    record {
      asked = c.self.invariant.asked;
      kept = after-insert (IsReadAt stretch value section) inside.read c.insert.new.self c.self.invariant.kept c.insert.result c.into_u64-number.result c.copied-2.result
          (rw (c.copied-2.ensures, at) read) c.insert.ensures.updates c.insert.ensures.err;
    }

pub returns-clause-cie : goal.returns-clause-cie
returns-clause-cie g c =
    let inside = c.self.inside in
    let same : g.Section._UnwindSectionPrivate.frame inside.section inside.bases.now ≡ section_within g.R.Offset.ReaderOffset.limit g.Section._UnwindSectionPrivate.kind c.args.self.now
    = g.met.Section._UnwindSectionPrivate.framed inside.section inside.bases.now
    ∙ ap (λ (within : SectionContents). section_within g.R.Offset.ReaderOffset.limit g.Section._UnwindSectionPrivate.kind within) c.self.view_is in
    subst (λ (section : FrameSection). GivesCie g.R.Reader.stretch g.R.Offset.ReaderOffset.value c.cie_from_offset-cie.result (cie_from_offset section (g.Section.Offset.UnwindOffset.number c.args.offset)))
    same c.cie_from_offset-cie.ensures
