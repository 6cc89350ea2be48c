-- FDEs in the order of their starts stay, and a stable sort of the others, the last first, puts the first of equal starts last.
use Rattle.std.proofs.Common.{rules}
use Rattle.std.proofs.lemmas.List.Sorted.{IsNonDecreasingBy-from_sort_by_key, answers_always}
use Rattle.framehop_index.proofs.Rising.{sorted-already}
use Rattle.framehop_index.proofs.cfi_index.in_order.Goals as goal

pub returns-then-starts_rise : goal.returns-then-starts_rise
returns-then-starts_rise c = sorted-already c.args.fdes.items (rw c.deref.ensures.value at (c.starts_rise.ensures c.if-starts_rise.true))

pub returns : goal.returns
returns c = record {
  ordered = IsNonDecreasingBy-from_sort_by_key (λ y. y.start) _ c.in_ok-sort_by_key.ensures.sorted (λ a r q k. search rules);
  moved = rw c.reverse.ensures.items at c.sort_by_key.ensures.permutation;
  stable = rw c.reverse.ensures.items at (c.sort_by_key.ensures.stable (λ y. y.start) (answers_always _ _ _ (λ f a r g h. search rules)));
}
