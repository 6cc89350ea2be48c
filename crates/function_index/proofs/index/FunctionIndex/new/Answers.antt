use Rattle.std.proofs.Common.{List, ap, ◌∙◌}
use Rattle.function_index.specs.Functions.{reaches_from}
use Rattle.function_index.specs.declared.functions.RankedFunction.{RankedFunction}
use Rattle.function_index.proofs.Ranked.{first-rises}
use Rattle.function_index.proofs.index.FunctionIndex.new.Goals as goal

pub invariant_of-result : goal.invariant_of-result
invariant_of-result c = (
  first-rises c.in_ok-functions.functions.items c.in_ok-functions.ensures.sorted,
  c.in_ok-reaches.ensures ∙ ap (λ (functions : List RankedFunction). reaches_from 0 functions) c.as_slice.ensures.value,
)
