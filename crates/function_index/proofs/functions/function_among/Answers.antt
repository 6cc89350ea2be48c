use Rattle.std.proofs.Common.{rules, get_or, arith, ◌∙◌}
use Rattle.std.specs.Prelude.{nat_le}
use Rattle.std.proofs.lemmas.Bool.Decides.{nat_tests}
use Rattle.std.proofs.lemmas.List.Sorted.{IsPartitionPoint-from_clause, IsPartitionedBy-leb}
use Rattle.function_index.proofs.LastAt.{begins-after, last-behind}
use Rattle.function_index.proofs.functions.function_among.Goals as goal

pub returns : goal.returns
returns c =
    let functions = c.args.functions.now in
    let point = IsPartitionPoint-from_clause (λ function. nat_le function.entry.first c.args.address) functions c.partition_point-count.result c.partition_point-count.ensures.partitioned
    (IsPartitionedBy-leb (λ function. function.entry.first) functions c.args.address c.requires.rises) (λ a r f' k. search rules) in
    c.last_among.ensures
    ∙ last-behind c.args.address functions c.partition_point-count.result
    (λ k d above within. let past = point.1 k d above within in begins-after c.args.address (get_or functions k d) (grind (arith, nat_tests)))
