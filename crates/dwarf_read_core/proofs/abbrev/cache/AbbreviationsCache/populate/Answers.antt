use Rattle.std.proofs.Common.{◌≡◌, sym, ◌∙◌, refl, true, false, Ok}
use Rattle.std.specs.BTreeSet.{contains}
use Rattle.std.specs.Ordering.{nat_cmp}
use Rattle.dwarf_read_core.specs.AbbreviationsCache.{is_kept}
use Rattle.dwarf_read_core.proofs.Populating.{nothing_so_far, so_far_kept, so_far_passed}
use Rattle.dwarf_read_core.proofs.abbrev.cache.AbbreviationsCache.populate.Goals as goal

pub loop-offset-init : goal.loop-offset-init
loop-offset-init g c = record {
  can = rw c.into_iter-offset-iterator.ensures.into_iter_gives c.requires.can;
  ends = rw c.into_iter-offset-iterator.ensures.into_iter_gives c.requires.ends;
  so_far = nothing_so_far _ _ _ _ _ c.new-cache.ensures (λ q. rw c.new-seen.ensures.empty refl);
}

pub loop-offset-preserved-in-Continue-branch-3 : goal.loop-offset-preserved-in-Continue-branch-3
loop-offset-preserved-in-Continue-branch-3 g c =
    let n = g.R.Offset.ReaderOffset.value c.in_ok-offset.offset.0 in
    let number : c.into_u64-number.result ≡ n = c.into_u64-number.ensures.value in
    let wanted : true ≡ is_kept c.args.strategy (contains nat_cmp c.loop-offset.seen n) = sym c.if-wanted.true ∙ rw (← number) c.in_ok-wanted.ensures.wanted in
    let item : c.in-Some.offset ≡ Ok c.in_ok-offset.offset = c.in_ok-offset.was in
    let next = c.in-Some.ensures.goes.on c.loop-offset.invariant.ends in
    record {
      can = next.0;
      ends = next.1;
      so_far = so_far_kept _ _ _ _ _ _ _ _ _ _ item c.loop-offset.invariant.so_far wanted (λ twice q. rw (← number) (c.in_ok-wanted.ensures.seen twice q)) c.in_ok-keep.ensures.kept;
    }

pub loop-offset-preserved : goal.loop-offset-preserved
loop-offset-preserved g c =
    let n = g.R.Offset.ReaderOffset.value c.in_ok-offset.offset.0 in
    let number : c.into_u64-number.result ≡ n = c.into_u64-number.ensures.value in
    let wanted : false ≡ is_kept c.args.strategy (contains nat_cmp c.loop-offset.seen n) = sym c.if-wanted.false ∙ rw (← number) c.in_ok-wanted.ensures.wanted in
    let item : c.in-Some.offset ≡ Ok c.in_ok-offset.offset = c.in_ok-offset.was in
    let next = c.in-Some.ensures.goes.on c.loop-offset.invariant.ends in
    record {
      can = next.0;
      ends = next.1;
      so_far = so_far_passed _ _ _ _ _ _ _ _ _ item c.loop-offset.invariant.so_far wanted (λ twice q. rw (← number) (c.in_ok-wanted.ensures.seen twice q));
    }
