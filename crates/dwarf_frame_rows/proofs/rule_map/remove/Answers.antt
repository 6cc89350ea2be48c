-- The gap goes from the index to the last pair, which is then taken away.
use Rattle.std.proofs.Common.{◌≡◌, ◌+◌, ◌-◌, suc, length, get_or, slice_set, take, add-one, subst, sym, ap, ◌∙◌, arith}
use Rattle.std.specs.List as list
use Rattle.std.proofs.lemmas.List.{length-set}
use Rattle.dwarf_frame_rows.proofs.Gaps.{HasGap, gap-popped, gap-removed, gap-up}
use Rattle.dwarf_frame_rows.proofs.rule_map.remove.Goals as goal

pub moved-init : goal.moved-init
moved-init g c =
    let items = g.Rules.ArrayLike.items in
    let all : length c.as_slice.result.now ≡ length (items c.args.rules.now) = ap length c.as_slice.ensures.value in
    record {
      last = omega (arith, c.requires, all);
      len = omega (arith, c.requires, all);
      gap = gap-removed c.args.index (items c.args.rules.now) c.requires;
    }

pub moved-preserved : goal.moved-preserved
moved-preserved g c =
    let items = g.Rules.ArrayLike.items in
    let left = list.remove (items c.args.rules.now) c.args.index in
    let next : c.moved.hole + 1 ≡ suc c.moved.hole = add-one c.moved.hole in
    let moved = gap-up c.moved.hole (items c.moved.rules) left c.index-as_slice-hole.result (omega (arith, c.moved-test.true, c.moved.invariant.len)) c.moved.invariant.gap in
    let read : get_or (items c.moved.rules) (suc c.moved.hole) c.index-as_slice-hole.result ≡ c.index-as_slice-hole.result =
    ap (λ n. get_or (items c.moved.rules) n c.index-as_slice-hole.result) (sym next)
    ∙ ap (λ xs. get_or xs (c.moved.hole + 1) c.index-as_slice-hole.result) (sym c.as_slice-in-moved.ensures.value) ∙ sym c.index-as_slice-hole.is in
    record {
      last = omega (arith, c.moved-test.true);
      len = ap length c.write.ensures ∙ length-set (items c.moved.rules) c.moved.hole c.index-as_slice-hole.result ∙ c.moved.invariant.len;
      gap = rw c.write.ensures
          (subst (λ n. HasGap n (slice_set (items c.moved.rules) c.moved.hole c.index-as_slice-hole.result) left) (sym next)
          (subst (λ y. HasGap (suc c.moved.hole) (slice_set (items c.moved.rules) c.moved.hole y) left) read moved));
    }

pub returns : goal.returns
returns g c =
    let items = g.Rules.ArrayLike.items in
    let len = c.moved.invariant.len in
    let there : length (items c.moved.rules) - 1 ≡ c.moved.hole = omega (arith, len, c.moved.invariant.last, c.moved-test.false) in
    let end : length (items c.moved.rules) ≡ suc c.moved.hole = omega (arith, len, c.moved.invariant.last, c.moved-test.false) in
    c.pop.ensures.rest ∙ ap (λ n. take n (items c.moved.rules)) there
    ∙ gap-popped c.moved.hole (items c.moved.rules) (list.remove (items c.args.rules.now) c.args.index) end c.moved.invariant.gap
