-- The search by halves counts the modules that start at or below the address.
use Rattle.std.proofs.Common.{rules, arith, ◌≡◌, suc, ◌<◌, length, List, Some, ◌∙◌, ap, sym}
use Rattle.std.specs.Prelude.{nat_le}
use Rattle.std.proofs.lemmas.List.Sorted.{IsPartitionPoint-from_clause, IsPartitionedBy-leb}
use Rattle.framehop_unwinder.specs.Modules.{Loaded}
use Rattle.framehop_unwinder.proofs.ModulesInOrder.{nearest-found, nearest-none}
use Rattle.framehop_unwinder.proofs.unwinder.nearest_module.Goals as goal

pub returns-in_err-index-clause-none : goal.returns-in_err-index-clause-none
returns-in_err-index-clause-none g c =
    let xs : List (Loaded g.row.D.Denot) = c.args.modules.now in
    let point = IsPartitionPoint-from_clause (λ m. nat_le m.start c.args.address) xs c.partition_point.result c.partition_point.ensures.partitioned
    (IsPartitionedBy-leb (λ m. m.start) xs c.args.address c.requires) (λ a r f' k. search rules) in
    let at_0 : c.partition_point.result ≡ 0 = grind arith in
    rw c.from_residual.ensures (nearest-none (λ (m : Loaded g.row.D.Denot). m.start) xs c.args.address (λ k d h. point.1 k d (omega arith) h))

pub returns-clause-some : goal.returns-clause-some
returns-clause-some g c =
    let xs : List (Loaded g.row.D.Denot) = c.args.modules.now in
    let point = IsPartitionPoint-from_clause (λ m. nat_le m.start c.args.address) xs c.partition_point.result c.partition_point.ensures.partitioned
    (IsPartitionedBy-leb (λ m. m.start) xs c.args.address c.requires) (λ a r f' k. search rules) in
    let next : c.partition_point.result ≡ suc c.in_ok-index.index = grind arith in
    let within : c.in_ok-index.index < length xs = omega (arith, c.partition_point.ensures.bound) in
    let found = nearest-found (λ (m : Loaded g.row.D.Denot). m.start) xs c.args.address c.in_ok-index.index c.index-modules-index.result c.requires within
    (λ k d h. point.0 k d (omega arith) (omega arith)) (λ k d h l. point.1 k d (omega arith) l) in
    found ∙ ap (λ m. Some m) (sym c.index-modules-index.is)
