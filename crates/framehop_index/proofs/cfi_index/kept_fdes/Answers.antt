use Rattle.std.proofs.Common.{rules, ◌≡◌, [], ◌∷◌, ◌++◌, Ok, ap, sym, ◌∙◌, arith}
use Rattle.dwarf_frame_entries.specs.EntryLists.{entries_of}
use Rattle.dwarf_frame_entries.specs.declared.entries.Entry.TheVariants as which
use Rattle.dwarf_frame_entries.proofs.Laws.{entries_there, fdes_of_section, first_of_section, others_of_section}
use Rattle.framehop_index.proofs.CfiIndexBuild.{cie-gathered, fde-gathered, fde-left-out, none-gathered, one-more}
use Rattle.framehop_index.proofs.KeptCies.{cie-before, fde-before, first_there, none-before, others_there}
use Rattle.framehop_index.proofs.cfi_index.kept_fdes.Goals as goal

pub entries-init : goal.entries-init
entries-init g c =
    let section = g.Section._UnwindSectionPrivate.frame c.args.section.now c.args.bases.now in
    let all : c.entries-entries.result.entries ≡ entries_of section = ap (λ l. l.entries) c.entries-entries.ensures in
    record {
      gathered = none-gathered section c.args.base_svma c.new-fdes.result.items c.entries-entries.result.entries c.entries-entries.result.end (search rules) all (ap (λ l. l.end) c.entries-entries.ensures);
      within = rw all (fdes_of_section section);
      known = c.new-known.ensures;
      there = rw all (entries_there section);
      cies = none-before section c.entries-entries.result.entries c.new-cies.result all (c.new-cies.ensures section);
    }

pub entries-preserved-in-Cie : goal.entries-preserved-in-Cie
entries-preserved-in-Cie g c =
    let section = g.Section._UnwindSectionPrivate.frame c.args.section.now c.args.bases.now in
    let list = rw (c.in-Some.is, c.in-Cie.is) at c.in_ok-entry.ensures.list in
    let on = rw c.in-Some.is at c.in_ok-entry.ensures.end in
    record {
      gathered = cie-gathered section c.args.base_svma c.entries.fdes.items c.entries.left_out c.entries.entries.entries c.next.new.self.entries c.entries.entries.end c.next.new.self.end _ list on c.entries.invariant.gathered;
      within = others_of_section section c.entries.entries.entries c.next.new.self.entries _ list c.entries.invariant.within;
      known = c.entries.invariant.known;
      there = others_there section c.entries.entries.entries c.next.new.self.entries _ list c.entries.invariant.there;
      cies = cie-before section c.entries.entries.entries c.next.new.self.entries _ c.entries.cies c.keep.new.self list
          (λ offsets. c.in_ok-keep-in-Cie.ensures c.args.bases.now offsets (first_there section c.entries.entries.entries c.next.new.self.entries _ list c.entries.invariant.there))
          c.entries.invariant.cies;
    }

pub entry_kept-requires : goal.entry_kept-requires
entry_kept-requires g c =
    let section = g.Section._UnwindSectionPrivate.frame c.args.section.now c.args.bases.now in
    let list = rw (c.in-Some.is, c.in-Fde.is) at c.in_ok-entry.ensures.list in
    first_of_section section c.entries.entries.entries c.next.new.self.entries (Ok (which.Fde c.in-Fde.partial)) list c.entries.invariant.within
    ∙ sym c.entries.invariant.known

pub entries-preserved-else-is_err : goal.entries-preserved-else-is_err
entries-preserved-else-is_err g c =
    let section = g.Section._UnwindSectionPrivate.frame c.args.section.now c.args.bases.now in
    let list = rw (c.in-Some.is, c.in-Fde.is) at c.in_ok-entry.ensures.list in
    let on = rw c.in-Some.is at c.in_ok-entry.ensures.end in
    let kept = c.in-Some-entry_kept.kept in
    let pushed : c.push.new.self.items ≡ c.entries.fdes.items ++ kept ∷ [] = search rules in
    record {
      gathered = fde-gathered section c.args.base_svma c.entries.fdes.items c.push.new.self.items c.entries.left_out c.entries.entries.entries c.next.new.self.entries c.entries.entries.end c.next.new.self.end c.in-Fde.partial list on c.entries.invariant.gathered kept
          (sym (rw (g.met.Section._UnwindSectionPrivate.framed c.args.section.now c.args.bases.now) c.in-Some-entry_kept.ensures.kept)) pushed;
      within = others_of_section section c.entries.entries.entries c.next.new.self.entries _ list c.entries.invariant.within;
      known = c.entry_kept.ensures.same ∙ c.entries.invariant.known;
      there = others_there section c.entries.entries.entries c.next.new.self.entries _ list c.entries.invariant.there;
      cies = fde-before section c.entries.entries.entries c.next.new.self.entries c.in-Fde.partial c.entries.cies list c.entries.invariant.cies;
    }

pub overflow_add-left_out : goal.overflow_add-left_out
overflow_add-left_out g c =
    let section = g.Section._UnwindSectionPrivate.frame c.args.section.now c.args.bases.now in
    let list = rw (c.in-Some.is, c.in-Fde.is) at c.in_ok-entry.ensures.list in
    let on = rw c.in-Some.is at c.in_ok-entry.ensures.end in
    let bytes = c.size_of_section-bytes.ensures c.args.bases.now in
    let more = one-more section c.args.base_svma c.entries.fdes.items c.entries.fdes.items c.entries.left_out c.entries.entries.entries c.next.new.self.entries c.entries.entries.end c.next.new.self.end c.in-Fde.partial list on c.entries.invariant.gathered in
    omega arith

pub entries-preserved : goal.entries-preserved
entries-preserved g c =
    let section = g.Section._UnwindSectionPrivate.frame c.args.section.now c.args.bases.now in
    let list = rw (c.in-Some.is, c.in-Fde.is) at c.in_ok-entry.ensures.list in
    let on = rw c.in-Some.is at c.in_ok-entry.ensures.end in
    record {
      gathered = fde-left-out section c.args.base_svma c.entries.fdes.items c.entries.fdes.items c.entries.left_out c.entries.entries.entries c.next.new.self.entries c.entries.entries.end c.next.new.self.end c.in-Fde.partial list on c.entries.invariant.gathered
          (sym (rw (g.met.Section._UnwindSectionPrivate.framed c.args.section.now c.args.bases.now) c.in-None.ensures.kept));
      within = others_of_section section c.entries.entries.entries c.next.new.self.entries _ list c.entries.invariant.within;
      known = c.entry_kept.ensures.same ∙ c.entries.invariant.known;
      there = others_there section c.entries.entries.entries c.next.new.self.entries _ list c.entries.invariant.there;
      cies = fde-before section c.entries.entries.entries c.next.new.self.entries c.in-Fde.partial c.entries.cies list c.entries.invariant.cies;
    }
