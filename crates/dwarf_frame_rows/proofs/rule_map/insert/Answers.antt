-- The gap goes from behind the last pair to the index.
use Rattle.std.proofs.Common.{◌≡◌, ◌-◌, suc, length, get_or, slice_set, subst, sym, ap, ◌∙◌, arith}
use Rattle.std.specs.List as list
use Rattle.std.proofs.lemmas.List.Edits.{insert_end}
use Rattle.dwarf_frame_rows.proofs.Gaps.{HasGap, gap-down, gap-filled, gap-push, gap-within}
use Rattle.dwarf_frame_rows.proofs.rule_map.insert.Goals as goal

pub moved-init : goal.moved-init
moved-init g c =
    let items = g.Rules.ArrayLike.items in
    record {
      index = rw c.as_slice-hole.ensures.value c.requires;
      gap = rw (c.as_slice-hole.ensures.value, c.in_ok-push.ensures.ok) (gap-push (items c.args.rules.now) c.args.ruled);
    }

pub returns-then-hole-index-clause-ok : goal.returns-then-hole-index-clause-ok
returns-then-hole-index-clause-ok g c =
    let items = g.Rules.ArrayLike.items in
    c.in_ok-push.ensures.ok ∙ sym (insert_end (items c.args.rules.now) c.args.ruled)
    ∙ ap (λ n. list.insert (items c.args.rules.now) n c.args.ruled) (ap length (sym c.as_slice-hole.ensures.value) ∙ c.if-hole-index.true)

pub offset_bounds-as_slice-hole : goal.offset_bounds-as_slice-hole
offset_bounds-as_slice-hole g c =
    let within = gap-within c.moved.hole (g.Rules.ArrayLike.items c.moved.rules) (g.Rules.ArrayLike.items c.args.rules.now) c.moved.invariant.gap in
    rw c.as_slice.ensures.value (omega (arith, within))

pub bounds-as_slice-hole : goal.bounds-as_slice-hole
bounds-as_slice-hole g c =
    let within = gap-within c.moved.hole (g.Rules.ArrayLike.items c.moved.rules) (g.Rules.ArrayLike.items c.args.rules.now) c.moved.invariant.gap in
    rw c.as_slice.ensures.value (omega (arith, within))

pub moved-preserved : goal.moved-preserved
moved-preserved g c =
    let items = g.Rules.ArrayLike.items in
    let next : c.moved.hole ≡ suc (c.moved.hole - 1) = omega (arith, c.moved-test.true) in
    let gap = subst (λ n. HasGap n (items c.moved.rules) (items c.args.rules.now)) next c.moved.invariant.gap in
    let moved = gap-down (c.moved.hole - 1) (items c.moved.rules) (items c.args.rules.now) c.index-as_slice-hole.result gap in
    let read : get_or (items c.moved.rules) (c.moved.hole - 1) c.index-as_slice-hole.result ≡ c.index-as_slice-hole.result =
    ap (λ xs. get_or xs (c.moved.hole - 1) c.index-as_slice-hole.result) (sym c.as_slice.ensures.value) ∙ sym c.index-as_slice-hole.is in
    record {
      index = omega (arith, c.moved-test.true);
      gap = rw c.write.ensures
          (subst (λ n. HasGap (c.moved.hole - 1) (slice_set (items c.moved.rules) n c.index-as_slice-hole.result) (items c.args.rules.now)) (sym next)
          (subst (λ y. HasGap (c.moved.hole - 1) (slice_set (items c.moved.rules) (suc (c.moved.hole - 1)) y) (items c.args.rules.now)) read moved));
    }

pub returns-clause-ok : goal.returns-clause-ok
returns-clause-ok g c =
    let items = g.Rules.ArrayLike.items in
    let there : c.moved.hole ≡ c.args.index = omega (arith, c.moved-test.false, c.moved.invariant.index) in
    c.write-2.ensures ∙ gap-filled c.moved.hole (items c.moved.rules) (items c.args.rules.now) c.args.ruled c.moved.invariant.gap
    ∙ ap (λ n. list.insert (items c.args.rules.now) n c.args.ruled) there
