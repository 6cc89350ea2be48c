use Rattle.std.proofs.Common.{◌≡◌, ◌-◌, ◌/◌, ◌≤◌, length}
use Rattle.function_index.specs.Functions.{ranked_from}
use Rattle.function_index.specs.TableViews.{symbols_seen}
use Rattle.function_index.proofs.functions.all_ranked.Given as goal

abbrev pub invariant-symbols : goal.invariant-symbols
invariant-symbols l = record {
  within : l.left ≤ length l.symbols.table.now / 24;
  same : l.functions.items ≡ ranked_from (symbols_seen l.symbols) l.left (length l.symbols.table.now / 24 - l.left);
}

abbrev pub decreases-symbols : goal.decreases-symbols
decreases-symbols l = l.left
