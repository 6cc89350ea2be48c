-- The FDEs of the index, one after the other.
use Rattle.std.proofs.Common.{◌<◌, List, length, get_or, arith, refl, sym, subst, ◌∙◌}
use Rattle.framehop_index.specs.declared.cfi_index.IndexedFde.{IndexedFde}
use Rattle.framehop_tables.specs.declared.spans.Span.{Span}
use Rattle.framehop_tables.specs.Covered.{tabulated}
use Rattle.framehop_tables.specs.Tabulations.{AreOf}
use Rattle.dwarf_cie_rows.proofs.OwnRowLaws.{none-known}
use Rattle.framehop_tables.proofs.IndexLaws.{all-said, next-done, next-few, next-says, says-none}
use Rattle.framehop_tables.proofs.fdes.ranges_of.Goals as goal

pub loop-place-init : goal.loop-place-init
loop-place-init g c =
    let frame = g.Section._UnwindSectionPrivate.frame c.args.section.now c.args.bases.now in
    let t = tabulated g.A.DwarfUnwinding.rows g.A.RowRules.rule_of g.S.UnwindContextStorage.limits (g.Section._UnwindSectionPrivate.extensions c.args.section.now) c.args.base_svma frame in
    let spans = c.fdes-fdes.ensures.found c.args.base_svma frame c.requires.index in
    let start = rw c.end_of-end.ensures at c.start_at.ensures.start in
    record {
      sound = c.nothing_up_to-ranges.ensures.sound;
      cies = c.new-cies.ensures;
      known = none-known (record { fp = g.A.DwarfUnwinding.fp; ra = g.A.DwarfUnwinding.ra }) g.S.UnwindContextStorage.limits frame (g.Section._UnwindSectionPrivate.extensions c.args.section.now) c.new-known.result
          (λ has. c.in_ok-has_room.ensures (rw c.new-known.ensures.room at has)) c.new-known.ensures.last c.new-known.ensures.all;
      done = c.nothing_up_to-ranges.ensures.done ∙ c.start_at.ensures.start;
      few = omega (arith, c.nothing_up_to-ranges.ensures.none);
      says = λ relative below.
          c.nothing_up_to-ranges.ensures.value relative ∙ sym (says-none t c.fdes-fdes.result.now spans c.fdes-fdes.ensures.ordered relative (omega (arith, below, c.nothing_up_to-ranges.ensures.done, start)));
    }

pub loop-place-preserved : goal.loop-place-preserved
loop-place-preserved g c =
    let frame = g.Section._UnwindSectionPrivate.frame c.args.section.now c.args.bases.now in
    let t = tabulated g.A.DwarfUnwinding.rows g.A.RowRules.rule_of g.S.UnwindContextStorage.limits (g.Section._UnwindSectionPrivate.extensions c.args.section.now) c.args.base_svma frame in
    let kept = c.fdes-fdes.result.now in
    let up = c.fdes-fdes.ensures.ordered in
    let spans = c.fdes-fdes.ensures.found c.args.base_svma frame c.requires.index in
    let so_far = c.loop-place.invariant in
    let d : IndexedFde = record { start = 0; offset = 0 } in
    let span : Span = record { base_svma = c.args.base_svma; offset = (get_or kept c.loop-place.place d).offset; limit = c.start_at-in-loop-place.result } in
    let within : c.loop-place.place < length kept = omega (arith, c.loop-place-test.true) in
    let limit = rw c.end_of-end.ensures at c.start_at-in-loop-place.ensures.start in
    let done = rw c.end_of-end.ensures at so_far.done in
    let adds = c.in_ok-add_entry.ensures.adds in
    record {
      sound = adds.sound;
      cies = c.fde_at.ensures.same ∙ so_far.cies;
      known = c.add_entry.ensures.known;
      done = rw c.end_of-end.ensures (next-done t kept spans up c.loop-place.place d within span c.loop-place.ranges c.add_entry.new.ranges refl refl limit done adds);
      few = next-few t kept spans up c.loop-place.place d within span c.loop-place.ranges c.add_entry.new.ranges refl refl limit done adds so_far.few;
      says = next-says t kept spans up c.loop-place.place d within span c.loop-place.ranges c.add_entry.new.ranges refl refl limit done adds so_far.says;
    }

pub returns : goal.returns
returns g c =
    let frame = g.Section._UnwindSectionPrivate.frame c.args.section.now c.args.bases.now in
    let t = tabulated g.A.DwarfUnwinding.rows g.A.RowRules.rule_of g.S.UnwindContextStorage.limits (g.Section._UnwindSectionPrivate.extensions c.args.section.now) c.args.base_svma frame in
    let spans = c.fdes-fdes.ensures.found c.args.base_svma frame c.requires.index in
    let so_far = c.loop-place.invariant in
    let done = rw c.end_of-end.ensures at so_far.done in
    subst (λ (kept : List IndexedFde). AreOf t kept c.extend.new.ranges) c.fdes-fdes.ensures.fdes
    (all-said t c.fdes-fdes.result.now spans c.fdes-fdes.ensures.ordered c.loop-place.place c.loop-place.ranges c.extend.new.ranges (omega arith) c.in_ok-extend.ensures done so_far.few so_far.says)
