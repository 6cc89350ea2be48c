-- The functions of symbols, by one symbol more in front; functions in order begin one after the other.
use Rattle.std.proofs.Common.{◌≡◌, ℕ, suc, ◌+◌, ◌-◌, ◌<◌, ◌≤◌, true, false, List, ◌++◌, get_or, nat_cmp, is_lt, ap, arith}
use Rattle.std.specs.List.Sorted.{IsNonDecreasingBy, IsSortedBy}
use Rattle.std.specs.Ordering.{ordering_then}
use Rattle.std.specs.Prelude.{nat_lt}
use Rattle.std.proofs.lemmas.Bool.{ltb-false}
use Rattle.std.proofs.lemmas.List.Sorted.{IsNonDecreasingBy-from_all_adjacent}
use Rattle.list_laws.proofs.Laws.{by_case}
use Rattle.elf_segments.specs.DynamicSymbols.{SymbolBytes}
use Rattle.function_index.specs.Functions.{is_before, ranked_at, ranked_from}
use Rattle.function_index.specs.declared.functions.RankedFunction.{RankedFunction}

pub ranked-back : (symbols : SymbolBytes) (left count : ℕ) → 0 < left → left ≤ count
    → ranked_from symbols (left - 1) (count - (left - 1)) ≡ ranked_from symbols left (count - left) ++ ranked_at symbols (left - 1)
ranked-back symbols left count some within =
    let more : count - (left - 1) ≡ suc (count - left) = omega arith in
    let next : left - 1 + 1 ≡ left = omega arith in
    rw more (ap (λ (index : ℕ). ranked_from symbols index (count - left) ++ ranked_at symbols (left - 1)) next)

not-before : (a b p q : ℕ) → is_lt (ordering_then (nat_cmp b a) (nat_cmp q p)) ≡ false → a ≤ b
not-before a b p q misses =
    by_case (nat_lt b a) (λ is. let none : true ≡ false = rw is at misses in absurd cc) (λ is. ltb-false b a is)

-- functions none of which is before the one in front of it begin one after the other
pub first-rises : (functions : List RankedFunction) → IsSortedBy is_before functions → IsNonDecreasingBy (λ function. function.entry.first) functions
first-rises functions sorted =
    IsNonDecreasingBy-from_all_adjacent (λ function. function.entry.first) functions
    (λ k d within. not-before _ _ (get_or functions k d).preference (get_or functions (k + 1) d).preference (sorted k d (omega arith) within))
