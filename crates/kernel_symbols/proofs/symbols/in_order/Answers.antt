use Rattle.std.proofs.Common.{rules}
use Rattle.std.proofs.lemmas.List.Sorted.{IsNonDecreasingBy-from_sort_by_key, answers_always}
use Rattle.kernel_symbols.proofs.Seen.{order-seen}
use Rattle.kernel_symbols.proofs.symbols.in_order.Goals as goal

pub returns-clause-rising : goal.returns-clause-rising
returns-clause-rising c = IsNonDecreasingBy-from_sort_by_key (λ symbol. symbol.address) _ c.in_ok-sort_by_key.ensures.sorted (λ a r q k. search rules)

pub returns-clause-same : goal.returns-clause-same
returns-clause-same c =
    order-seen _ _ c.sort_by_key.ensures.permutation
    (IsNonDecreasingBy-from_sort_by_key (λ symbol. symbol.address) _ c.in_ok-sort_by_key.ensures.sorted (λ a r q k. search rules))
    (c.sort_by_key.ensures.stable (λ symbol. symbol.address) (answers_always _ _ _ (λ f a r g h. search rules)))
