-- What is kept of a CIE is kept of it wherever it is in the section, and its instructions don't begin before the section.
use Rattle.std.proofs.Common.{◌≡◌, ◌≤◌, ◌-◌, rules, ap, sym, ◌∙◌, arith}
use Rattle.dwarf_readers.specs.Stretch.{Stretch}
use Rattle.dwarf_frame_rows.specs.FrameSection.{FrameSection}
use Rattle.dwarf_frame_entries.specs.Entries.{Cie}
use Rattle.dwarf_frame_entries.specs.EntryViews.{cie_view}
use Rattle.dwarf_frame_entries.proofs.CieBytes.{instructions-within}
use Rattle.dwarf_frame_entries.proofs.KeptCies.{kept-there}
use Rattle.dwarf_frame_entries.proofs.kept_cie.KeptCie.of.Goals as goal

pub returns-clause-kept : goal.returns-clause-kept
returns-clause-kept g c bases offset at =
    let stretch = g.R.Reader.stretch in
    let section : FrameSection = g.Section._UnwindSectionPrivate.frame c.args.section.now bases in
    let cie : Cie = cie_view stretch g.R.Offset.ReaderOffset.value c.args.cie.now in
    let bytes : section.within.bytes ≡ stretch c.section.result.now
    = ap (λ (f : FrameSection). f.within.bytes) (g.met.Section._UnwindSectionPrivate.framed c.args.section.now bases) ∙ ap stretch (sym c.section.ensures) in
    let start : section.within.bytes.offset ≡ c.offset_id-start.result.0 = ap (λ (s : Stretch). s.offset) bytes ∙ sym c.offset_id-start.ensures in
    let place : c.offset_id.result.0 ≡ cie.instructions.offset = c.offset_id.ensures in
    let skipped : c.in_ok-skipped.skipped ≡ cie.instructions.offset - section.within.bytes.offset = omega (arith, c.in_ok-skipped.ensures) in
    kept-there section offset cie _ at
    (rw (c.into_u64.ensures.value, c.into_u64-2.ensures.value) (search rules))
    skipped
    (c.into_u64-count.ensures.value ∙ c.len.ensures.len)

pub returns-in_err-skipped-clause-there : goal.returns-in_err-skipped-clause-there
returns-in_err-skipped-clause-there g c bases offset at =
    let stretch = g.R.Reader.stretch in
    let section : FrameSection = g.Section._UnwindSectionPrivate.frame c.args.section.now bases in
    let cie : Cie = cie_view stretch g.R.Offset.ReaderOffset.value c.args.cie.now in
    let bytes : section.within.bytes ≡ stretch c.section.result.now
    = ap (λ (f : FrameSection). f.within.bytes) (g.met.Section._UnwindSectionPrivate.framed c.args.section.now bases) ∙ ap stretch (sym c.section.ensures) in
    let start : section.within.bytes.offset ≡ c.offset_id-start.result.0 = ap (λ (s : Stretch). s.offset) bytes ∙ sym c.offset_id-start.ensures in
    let place : c.offset_id.result.0 ≡ cie.instructions.offset = c.offset_id.ensures in
    let within : section.within.bytes.offset ≤ cie.instructions.offset = instructions-within section offset cie at in
    absurd (omega (arith, c.in_err-skipped.ensures))
