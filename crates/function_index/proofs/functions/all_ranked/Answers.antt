use Rattle.std.proofs.Common.{◌-◌, ◌/◌, ◌++◌, List, length, arith, sym, ap, ◌∙◌}
use Rattle.function_index.specs.Functions.{ranked_at}
use Rattle.function_index.specs.TableViews.{symbols_seen}
use Rattle.function_index.specs.declared.functions.RankedFunction.{RankedFunction}
use Rattle.function_index.proofs.Ranked.{ranked-back}
use Rattle.function_index.proofs.functions.all_ranked.Goals as goal

pub symbols-preserved : goal.symbols-preserved
symbols-preserved c =
    let known = c.symbols.invariant in
    let symbols = symbols_seen c.args.symbols.now in
    record {
      within = omega arith;
      same = c.in_ok-push_function.ensures
          ∙ ap (λ (found : List RankedFunction). found ++ ranked_at symbols (c.symbols.left - 1)) known.same
          ∙ sym (ranked-back symbols c.symbols.left (length c.args.symbols.now.table.now / 24) (omega arith) known.within);
    }
