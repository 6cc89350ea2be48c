use Rattle.std.proofs.Common.{rules, ℕ}
use Rattle.std.proofs.lemmas.List.Sorted.{answers_always}
use Rattle.function_index.specs.declared.functions.RankedFunction.{RankedFunction}
use Rattle.function_index.proofs.functions.in_order.Goals as goal

pub returns : goal.returns
returns c =
    let key : RankedFunction → ℕ × ℕ = λ function. (function.entry.first, function.preference) in
    record {
      same = c.sort_by_key.ensures.permutation;
      sorted = c.in_ok-sort_by_key.ensures.sorted key (answers_always _ _ _ (λ f a r g h. search rules));
      stable = c.sort_by_key.ensures.stable key (answers_always _ _ _ (λ f a r g h. search rules));
    }
