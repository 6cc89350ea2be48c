use denote.Param.Always.{mut_next}
use Rattle.std.proofs.Common.{rules, [], Err, inl, refl, sym, ap, subst, ◌∙◌}
use Rattle.std.specs.List.{All}
use Rattle.std.proofs.lemmas.Result.{err_from_is_err_and}
use Rattle.dwarf_frame_entries.specs.Entries.{PartialFde}
use Rattle.dwarf_frame_entries.specs.EntryLists.{EntryList}
use Rattle.dwarf_frame_entries.specs.SectionFdes.{IsOfSection}
use Rattle.dwarf_frame_entries.proofs.CieReaders.{first-of-section, later-of-section, reads-on}
use Rattle.dwarf_frame_entries.proofs.EntryOffsets.{fdes_of_section}
use Rattle.dwarf_frame_entries.proofs.SkippingLookups.{cie-failed, cie-passed, fde-by-cie, fde-elsewhere, fde-found, fde-passed, fde-without-cie, list-fails, memory-wanted, none-left, skipping-all, skipping_among}
use Rattle.dwarf_frame_entries.proofs.section.UnwindSection.fde_for_address_skipping.Goals as goal

pub loop-get_cie-init : goal.loop-get_cie-init
loop-get_cie-init g c =
    let section = g.Self._UnwindSectionPrivate.frame c.args.self.now c.args.bases.now in
    record {
      callable = search rules;
      of_section = subst (λ (list : EntryList). All (IsOfSection section) list.entries) (sym c.entries-entries.ensures) (fdes_of_section section);
      left = λ may_allocate h. (h, ap (λ (list : EntryList). skipping_among section c.args.address list.entries list.end) c.entries-entries.ensures ∙ skipping-all section c.args.address);
    }

pub returns-in_err-entry : goal.returns-in_err-entry
returns-in_err-entry g c =
    let section = g.Self._UnwindSectionPrivate.frame c.args.self.now c.args.bases.now in
    let p = err_from_is_err_and c.from_residual.result c.from_residual.ensures.1 in
    λ may_allocate h. rw (p.1, p.2) (inl (list-fails section c.args.address c.loop-get_cie.entries.entries c.loop-get_cie.entries.end _ (c.loop-get_cie.invariant.left may_allocate h).1 _ c.in_err-entry.ensures.list.0 c.in_err-entry.ensures.end))

pub loop-get_cie-preserved-in_default-entry : goal.loop-get_cie-preserved-in_default-entry
loop-get_cie-preserved-in_default-entry g c =
    let section = g.Self._UnwindSectionPrivate.frame c.args.self.now c.args.bases.now in
    let list = rw (c.in-Some.is, c.in_default-entry.is) at c.in_ok-entry.ensures.list in
    let on = rw c.in-Some.is at c.in_ok-entry.ensures.end in
    record {
      callable = c.loop-get_cie.invariant.callable;
      of_section = later-of-section section _ _ _ list c.loop-get_cie.invariant.of_section;
      left = λ may_allocate h. (
        (c.loop-get_cie.invariant.left may_allocate h).0,
        cie-passed section c.args.address c.loop-get_cie.entries.entries c.loop-get_cie.entries.end _ (c.loop-get_cie.invariant.left may_allocate h).1 _ on _ _ list,
      );
    }

pub returns : goal.returns
returns g c =
    let section = g.Self._UnwindSectionPrivate.frame c.args.self.now c.args.bases.now in
    let list = rw c.in_default.is at c.in_ok-entry.ensures.list in
    let end = rw c.in_default.is at c.in_ok-entry.ensures.end in
    λ may_allocate h. inl (none-left section c.args.address c.loop-get_cie.entries.entries c.loop-get_cie.entries.end _ (c.loop-get_cie.invariant.left may_allocate h).1 list.0 end)

pub loop-get_cie-preserved-in_default-with_cie : goal.loop-get_cie-preserved-in_default-with_cie
loop-get_cie-preserved-in_default-with_cie g c =
    let section = g.Self._UnwindSectionPrivate.frame c.args.self.now c.args.bases.now in
    let framed = g.met.Self._UnwindSectionPrivate.framed in
    let i = c.partial.inside in
    let list = rw (c.in-Some.is, c.in-Fde.is) at c.in_ok-entry.ensures.list in
    let on = rw c.in-Some.is at c.in_ok-entry.ensures.end in
    let here = first-of-section framed i.section c.args.self.now i.bases.now c.args.bases.now (g.Self.Offset.UnwindOffset.number i.cie_offset) c.in-Fde.partial _ _
    (ap (λ (p : PartialFde). p.within) c.partial.view_is) (ap (λ (p : PartialFde). p.cie_offset) (sym c.partial.view_is)) list c.loop-get_cie.invariant.of_section in
    record {
      callable = mut_next g.F.FnMut _ _ _ _ _ c.get_cie.ensures refl c.loop-get_cie.invariant.callable;
      of_section = here.1;
      left = λ may_allocate h. (
        reads-on (goal.F-step g) g.R.Reader.stretch g.R.Offset.ReaderOffset.value g.Self._UnwindSectionPrivate.frame g.Self.Offset.UnwindOffset.number section may_allocate
            _ _ _ _ _ _ here.0.0 c.get_cie.ensures (c.loop-get_cie.invariant.left may_allocate h).0,
        fde-passed section c.args.address c.loop-get_cie.entries.entries c.loop-get_cie.entries.end _ (c.loop-get_cie.invariant.left may_allocate h).1 _ on c.in-Fde.partial _ list c.in_default-with_cie.field-0 (fde-by-cie section c.in-Fde.partial _ (Err c.in_default-with_cie.field-0) (here.0.1 ∙ ((c.loop-get_cie.invariant.left may_allocate h).0 [] _ refl _ _ _ _ _ here.0.0 c.in-Ok.ensures)) (rw (framed c.args.self.now c.args.bases.now) c.in_default-with_cie.ensures)),
      );
    }

pub returns-then-contains : goal.returns-then-contains
returns-then-contains g c =
    let section = g.Self._UnwindSectionPrivate.frame c.args.self.now c.args.bases.now in
    let framed = g.met.Self._UnwindSectionPrivate.framed in
    let i = c.partial.inside in
    let list = rw (c.in-Some.is, c.in-Fde.is) at c.in_ok-entry.ensures.list in
    let on = rw c.in-Some.is at c.in_ok-entry.ensures.end in
    let here = first-of-section framed i.section c.args.self.now i.bases.now c.args.bases.now (g.Self.Offset.UnwindOffset.number i.cie_offset) c.in-Fde.partial _ _
    (ap (λ (p : PartialFde). p.within) c.partial.view_is) (ap (λ (p : PartialFde). p.cie_offset) (sym c.partial.view_is)) list c.loop-get_cie.invariant.of_section in
    λ may_allocate h. fde-found section c.args.address c.loop-get_cie.entries.entries c.loop-get_cie.entries.end _ (c.loop-get_cie.invariant.left may_allocate h).1 _ on c.in-Fde.partial _ list c.in-Ok-with_cie.fde
    (fde-by-cie section c.in-Fde.partial _ _ (here.0.1 ∙ ((c.loop-get_cie.invariant.left may_allocate h).0 [] _ refl _ _ _ _ _ here.0.0 c.in-Ok.ensures)) (rw (framed c.args.self.now c.args.bases.now) c.in-Ok-with_cie.ensures))
    (sym c.contains.ensures ∙ c.if-contains.true)

pub loop-get_cie-preserved : goal.loop-get_cie-preserved
loop-get_cie-preserved g c =
    let section = g.Self._UnwindSectionPrivate.frame c.args.self.now c.args.bases.now in
    let framed = g.met.Self._UnwindSectionPrivate.framed in
    let i = c.partial.inside in
    let list = rw (c.in-Some.is, c.in-Fde.is) at c.in_ok-entry.ensures.list in
    let on = rw c.in-Some.is at c.in_ok-entry.ensures.end in
    let here = first-of-section framed i.section c.args.self.now i.bases.now c.args.bases.now (g.Self.Offset.UnwindOffset.number i.cie_offset) c.in-Fde.partial _ _
    (ap (λ (p : PartialFde). p.within) c.partial.view_is) (ap (λ (p : PartialFde). p.cie_offset) (sym c.partial.view_is)) list c.loop-get_cie.invariant.of_section in
    record {
      callable = mut_next g.F.FnMut _ _ _ _ _ c.get_cie.ensures refl c.loop-get_cie.invariant.callable;
      of_section = here.1;
      left = λ may_allocate h. (
        reads-on (goal.F-step g) g.R.Reader.stretch g.R.Offset.ReaderOffset.value g.Self._UnwindSectionPrivate.frame g.Self.Offset.UnwindOffset.number section may_allocate
            _ _ _ _ _ _ here.0.0 c.get_cie.ensures (c.loop-get_cie.invariant.left may_allocate h).0,
        fde-elsewhere section c.args.address c.loop-get_cie.entries.entries c.loop-get_cie.entries.end _ (c.loop-get_cie.invariant.left may_allocate h).1 _ on c.in-Fde.partial _ list c.in-Ok-with_cie.fde
            (fde-by-cie section c.in-Fde.partial _ _ (here.0.1 ∙ ((c.loop-get_cie.invariant.left may_allocate h).0 [] _ refl _ _ _ _ _ here.0.0 c.in-Ok.ensures)) (rw (framed c.args.self.now c.args.bases.now) c.in-Ok-with_cie.ensures))
            (sym c.contains.ensures ∙ c.if-contains.false),
      );
    }

pub returns-in-OutOfMemory : goal.returns-in-OutOfMemory
returns-in-OutOfMemory g c =
    let section = g.Self._UnwindSectionPrivate.frame c.args.self.now c.args.bases.now in
    let framed = g.met.Self._UnwindSectionPrivate.framed in
    let i = c.partial.inside in
    let list = rw (c.in-Some.is, c.in-Fde.is) at c.in_ok-entry.ensures.list in
    let on = rw c.in-Some.is at c.in_ok-entry.ensures.end in
    let here = first-of-section framed i.section c.args.self.now i.bases.now c.args.bases.now (g.Self.Offset.UnwindOffset.number i.cie_offset) c.in-Fde.partial _ _
    (ap (λ (p : PartialFde). p.within) c.partial.view_is) (ap (λ (p : PartialFde). p.cie_offset) (sym c.partial.view_is)) list c.loop-get_cie.invariant.of_section in
    λ may_allocate h. rw c.in-OutOfMemory.is (memory-wanted section (g.Self.Offset.UnwindOffset.number i.cie_offset) may_allocate (rw c.in-OutOfMemory.is at ((c.loop-get_cie.invariant.left may_allocate h).0 [] _ refl _ _ _ _ _ here.0.0 c.in-Err.ensures)))

pub loop-get_cie-preserved-in_default-error : goal.loop-get_cie-preserved-in_default-error
loop-get_cie-preserved-in_default-error g c =
    let section = g.Self._UnwindSectionPrivate.frame c.args.self.now c.args.bases.now in
    let framed = g.met.Self._UnwindSectionPrivate.framed in
    let i = c.partial.inside in
    let list = rw (c.in-Some.is, c.in-Fde.is) at c.in_ok-entry.ensures.list in
    let on = rw c.in-Some.is at c.in_ok-entry.ensures.end in
    let here = first-of-section framed i.section c.args.self.now i.bases.now c.args.bases.now (g.Self.Offset.UnwindOffset.number i.cie_offset) c.in-Fde.partial _ _
    (ap (λ (p : PartialFde). p.within) c.partial.view_is) (ap (λ (p : PartialFde). p.cie_offset) (sym c.partial.view_is)) list c.loop-get_cie.invariant.of_section in
    record {
      callable = mut_next g.F.FnMut _ _ _ _ _ c.get_cie.ensures refl c.loop-get_cie.invariant.callable;
      of_section = here.1;
      left = λ may_allocate h. (
        reads-on (goal.F-step g) g.R.Reader.stretch g.R.Offset.ReaderOffset.value g.Self._UnwindSectionPrivate.frame g.Self.Offset.UnwindOffset.number section may_allocate
            _ _ _ _ _ _ here.0.0 c.get_cie.ensures (c.loop-get_cie.invariant.left may_allocate h).0,
        fde-passed section c.args.address c.loop-get_cie.entries.entries c.loop-get_cie.entries.end _ (c.loop-get_cie.invariant.left may_allocate h).1 _ on c.in-Fde.partial _ list c.in-Err.error (fde-without-cie section c.in-Fde.partial c.in-Err.error (cie-failed may_allocate c.in-Err.error _ _ here.0.1 c.in_default-error.not-OutOfMemory ((c.loop-get_cie.invariant.left may_allocate h).0 [] _ refl _ _ _ _ _ here.0.0 c.in-Err.ensures))),
      );
    }
