-- The search by halves counts the modules that start at or below the address.
use Rattle.std.proofs.Common.{rules, arith, ◌≡◌, ◌≢◌, ℕ, suc, ◌<◌, length, List, ◌∙◌, ap, sym, false}
use Rattle.std.specs.Prelude.{nat_le}
use Rattle.std.proofs.lemmas.Bool.{leb-true, leb-false}
use Rattle.std.proofs.lemmas.List.Sorted.{IsPartitionPoint-from_clause, IsPartitionedBy-leb}
use Rattle.framehop_unwinder.specs.Modules.{Loaded}
use Rattle.framehop_unwinder.proofs.ModulesInOrder.{starts-nowhere, starts-nowhere-else, remove-is, remove-ordered}
use Rattle.framehop_unwinder.proofs.unwinder.last_with_start.Goals as goal

above : (start number : ℕ) → nat_le start number ≡ false → start ≢ number
above start number is same = absurd (omega (arith, leb-false start number is))

pub returns-in_err-index-clause-none : goal.returns-in_err-index-clause-none
returns-in_err-index-clause-none g c =
    let xs : List (Loaded g.row.D.Denot) = c.args.modules.now in
    let point = IsPartitionPoint-from_clause (λ m. nat_le m.start c.args.start) xs c.partition_point.result c.partition_point.ensures.partitioned
    (IsPartitionedBy-leb (λ m. m.start) xs c.args.start c.requires) (λ a r f' k. search rules) in
    let at_0 : c.partition_point.result ≡ 0 = grind arith in
    rw c.from_residual.ensures (starts-nowhere (λ (m : Loaded g.row.D.Denot). m.start) xs c.args.start (λ k d h. above _ _ (point.1 k d (omega arith) h)))

pub returns-then-start-clause-without : goal.returns-then-start-clause-without
returns-then-start-clause-without g c =
    let xs : List (Loaded g.row.D.Denot) = c.args.modules.now in
    let point = IsPartitionPoint-from_clause (λ m. nat_le m.start c.args.start) xs c.partition_point.result c.partition_point.ensures.partitioned
    (IsPartitionedBy-leb (λ m. m.start) xs c.args.start c.requires) (λ a r f' k. search rules) in
    let next : c.partition_point.result ≡ suc c.in_ok-index.index = grind arith in
    let within : c.in_ok-index.index < length xs = omega (arith, c.partition_point.ensures.bound) in
    remove-is (λ (m : Loaded g.row.D.Denot). m.start) xs c.args.start c.in_ok-index.index c.index-modules-index.result within
    (ap (λ (m : Loaded g.row.D.Denot). m.start) (sym c.index-modules-index.is) ∙ sym c.start.ensures ∙ c.if-start.true)
    (λ k d h l. above _ _ (point.1 k d (omega arith) l))

pub returns-then-start-clause-order : goal.returns-then-start-clause-order
returns-then-start-clause-order g c =
    let xs : List (Loaded g.row.D.Denot) = c.args.modules.now in
    let next : c.partition_point.result ≡ suc c.in_ok-index.index = grind arith in
    let within : c.in_ok-index.index < length xs = omega (arith, c.partition_point.ensures.bound) in
    remove-ordered (λ (m : Loaded g.row.D.Denot). m.start) xs c.in_ok-index.index within c.requires

pub returns-else-start-clause-none : goal.returns-else-start-clause-none
returns-else-start-clause-none g c =
    let xs : List (Loaded g.row.D.Denot) = c.args.modules.now in
    let point = IsPartitionPoint-from_clause (λ m. nat_le m.start c.args.start) xs c.partition_point.result c.partition_point.ensures.partitioned
    (IsPartitionedBy-leb (λ m. m.start) xs c.args.start c.requires) (λ a r f' k. search rules) in
    let next : c.partition_point.result ≡ suc c.in_ok-index.index = grind arith in
    let within : c.in_ok-index.index < length xs = omega (arith, c.partition_point.ensures.bound) in
    starts-nowhere-else (λ (m : Loaded g.row.D.Denot). m.start) xs c.args.start c.in_ok-index.index c.index-modules-index.result c.requires within
    (leb-true _ _ (point.0 c.in_ok-index.index c.index-modules-index.result (omega arith) (omega arith)))
    (λ same. c.if-start.false (c.start.ensures ∙ ap (λ (m : Loaded g.row.D.Denot). m.start) c.index-modules-index.is ∙ same))
    (λ k d h l. leb-false _ _ (point.1 k d (omega arith) l))
