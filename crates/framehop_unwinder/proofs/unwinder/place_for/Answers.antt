-- The search by halves counts the modules that start below the new one.
use Rattle.std.proofs.Common.{rules, arith, List}
use Rattle.std.specs.Prelude.{nat_lt}
use Rattle.std.proofs.lemmas.List.Sorted.{IsPartitionPoint-from_clause, IsPartitionedBy-ltb}
use Rattle.framehop_unwinder.specs.Modules.{Loaded}
use Rattle.framehop_unwinder.proofs.ModulesInOrder.{insert-is, insert-ordered}
use Rattle.framehop_unwinder.proofs.unwinder.place_for.Goals as goal

pub returns-clause-place : goal.returns-clause-place
returns-clause-place g c = λ module_ is.
    let xs : List (Loaded g.row.D.Denot) = c.args.modules.now in
    let point = IsPartitionPoint-from_clause (λ m. nat_lt m.start c.args.start) xs c.partition_point.result c.partition_point.ensures.partitioned
    (IsPartitionedBy-ltb (λ m. m.start) xs c.args.start c.requires) (λ a r f' k. search rules) in
    insert-is (λ (m : Loaded g.row.D.Denot). m.start) xs c.partition_point.result module_ c.partition_point.ensures.bound
    (λ k d h. rw is (point.0 k d (omega arith) h)) (λ k d h l. rw is (point.1 k d h l))

pub returns-clause-order : goal.returns-clause-order
returns-clause-order g c = λ module_ is.
    let xs : List (Loaded g.row.D.Denot) = c.args.modules.now in
    let point = IsPartitionPoint-from_clause (λ m. nat_lt m.start c.args.start) xs c.partition_point.result c.partition_point.ensures.partitioned
    (IsPartitionedBy-ltb (λ m. m.start) xs c.args.start c.requires) (λ a r f' k. search rules) in
    insert-ordered (λ (m : Loaded g.row.D.Denot). m.start) xs c.partition_point.result module_ c.requires c.partition_point.ensures.bound
    (λ k d h. rw is (point.0 k d (omega arith) h)) (λ k d h l. rw is (point.1 k d h l))
