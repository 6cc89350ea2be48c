use Rattle.std.proofs.Common.{rules}
use Rattle.std.proofs.lemmas.List.Sorted.{IsNonDecreasingBy-from_sort_by_key, answers_always}
use Rattle.backtrace_lint.proofs.Sorted.{sorted-in-order}
use Rattle.backtrace_lint.proofs.overlaps.in_order.Goals as goal

pub returns : goal.returns
returns c =
    sorted-in-order _ _
    (IsNonDecreasingBy-from_sort_by_key (λ y. y.start) _ c.in_ok-sort_by_key.ensures.sorted (λ a r q k. search rules))
    (c.sort_by_key.ensures.stable (λ y. y.start) (answers_always _ _ _ (λ f a r g h. search rules)))
