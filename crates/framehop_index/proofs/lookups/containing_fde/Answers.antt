use Rattle.std.proofs.Common.{Ok, ap, sym, ◌∙◌}
use Rattle.std.proofs.lemmas.Result.{err_from_is_err_and}
use Rattle.dwarf_frame_entries.specs.EntryLists.{EntryList}
use Rattle.dwarf_frame_entries.specs.declared.entries.Entry.TheVariants as which
use Rattle.dwarf_frame_entries.proofs.Laws.{fdes_of_section, first_of_section, others_of_section}
use Rattle.framehop_index.proofs.Scans.{cie-passed, fde-elsewhere, fde-found, fde-passed, list-fails, none-left, scan-all, scan_among}
use Rattle.framehop_index.proofs.lookups.containing_fde.Goals as goal

pub entries-init : goal.entries-init
entries-init g c =
    let section = g.Section._UnwindSectionPrivate.frame c.args.section.now c.args.bases.now in
    let all = c.entries-entries.ensures in
    record {
      left = ap (λ (l : EntryList). scan_among section c.args.address l.entries l.end) all ∙ scan-all section c.args.address;
      within = rw all (fdes_of_section section);
      last = tt;
    }

pub returns-in_err-entry : goal.returns-in_err-entry
returns-in_err-entry g c =
    let section = g.Section._UnwindSectionPrivate.frame c.args.section.now c.args.bases.now in
    let p = err_from_is_err_and c.from_residual.result c.from_residual.ensures.1 in
    rw (p.1, p.2) (list-fails section c.args.address c.entries.entries.entries c.entries.entries.end _ c.entries.invariant.left _ c.in_err-entry.ensures.list.0 c.in_err-entry.ensures.end)

pub returns-in_default : goal.returns-in_default
returns-in_default g c =
    let section = g.Section._UnwindSectionPrivate.frame c.args.section.now c.args.bases.now in
    let list = rw c.in_default.is at c.in_ok-entry.ensures.list in
    let end = rw c.in_default.is at c.in_ok-entry.ensures.end in
    none-left section c.args.address c.entries.entries.entries c.entries.entries.end _ c.entries.invariant.left list.0 end

pub entries-preserved-in_default-entry : goal.entries-preserved-in_default-entry
entries-preserved-in_default-entry g c =
    let section = g.Section._UnwindSectionPrivate.frame c.args.section.now c.args.bases.now in
    let list = rw (c.in-Some.is, c.in_default-entry.is) at c.in_ok-entry.ensures.list in
    let on = rw c.in-Some.is at c.in_ok-entry.ensures.end in
    record {
      left = cie-passed section c.args.address c.entries.entries.entries c.entries.entries.end _ c.entries.invariant.left _ on _ c.next.new.self.entries list;
      within = others_of_section section c.entries.entries.entries c.next.new.self.entries _ list c.entries.invariant.within;
      last = c.entries.invariant.last;
    }

pub fde_by_last-requires-clause-within : goal.fde_by_last-requires-clause-within
fde_by_last-requires-clause-within g c =
    let section = g.Section._UnwindSectionPrivate.frame c.args.section.now c.args.bases.now in
    let list = rw (c.in-Some.is, c.in-Fde.is) at c.in_ok-entry.ensures.list in
    first_of_section section c.entries.entries.entries c.next.new.self.entries (Ok (which.Fde c.in-Fde.partial)) list c.entries.invariant.within

pub returns-then-contains : goal.returns-then-contains
returns-then-contains g c =
    let section = g.Section._UnwindSectionPrivate.frame c.args.section.now c.args.bases.now in
    let list = rw (c.in-Some.is, c.in-Fde.is) at c.in_ok-entry.ensures.list in
    let on = rw c.in-Some.is at c.in_ok-entry.ensures.end in
    fde-found section c.args.address c.entries.entries.entries c.entries.entries.end _ c.entries.invariant.left _ on c.in-Fde.partial c.next.new.self.entries list c.in-Ok.fde
    (rw (g.met.Section._UnwindSectionPrivate.framed c.args.section.now c.args.bases.now) c.in-Ok.ensures.fde)
    (sym c.contains.ensures ∙ c.if-contains.true)

pub entries-preserved-in_default-fde_by_last : goal.entries-preserved-in_default-fde_by_last
entries-preserved-in_default-fde_by_last g c =
    let section = g.Section._UnwindSectionPrivate.frame c.args.section.now c.args.bases.now in
    let list = rw (c.in-Some.is, c.in-Fde.is) at c.in_ok-entry.ensures.list in
    let on = rw c.in-Some.is at c.in_ok-entry.ensures.end in
    record {
      left = fde-passed section c.args.address c.entries.entries.entries c.entries.entries.end _ c.entries.invariant.left _ on c.in-Fde.partial c.next.new.self.entries list c.in_default-fde_by_last.field-0
          (rw (g.met.Section._UnwindSectionPrivate.framed c.args.section.now c.args.bases.now) c.in_default-fde_by_last.ensures.fde);
      within = others_of_section section c.entries.entries.entries c.next.new.self.entries _ list c.entries.invariant.within;
      last = c.fde_by_last.ensures.last;
    }

pub entries-preserved : goal.entries-preserved
entries-preserved g c =
    let section = g.Section._UnwindSectionPrivate.frame c.args.section.now c.args.bases.now in
    let list = rw (c.in-Some.is, c.in-Fde.is) at c.in_ok-entry.ensures.list in
    let on = rw c.in-Some.is at c.in_ok-entry.ensures.end in
    record {
      left = fde-elsewhere section c.args.address c.entries.entries.entries c.entries.entries.end _ c.entries.invariant.left _ on c.in-Fde.partial c.next.new.self.entries list c.in-Ok.fde
          (rw (g.met.Section._UnwindSectionPrivate.framed c.args.section.now c.args.bases.now) c.in-Ok.ensures.fde)
          (sym c.contains.ensures ∙ c.if-contains.false);
      within = others_of_section section c.entries.entries.entries c.next.new.self.entries _ list c.entries.invariant.within;
      last = c.fde_by_last.ensures.last;
    }
