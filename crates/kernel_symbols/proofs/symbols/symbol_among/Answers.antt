use Rattle.std.proofs.Common.{rules, ◌-◌, ◌<◌, length, arith, sym}
use Rattle.std.specs.Prelude.{nat_le}
use Rattle.std.proofs.lemmas.List.Sorted.{IsPartitionPoint-from_clause, IsPartitionedBy-leb}
use Rattle.kernel_symbols.proofs.Seen.{is-after-if, is-before-if, last-at, none-at}
use Rattle.kernel_symbols.proofs.symbols.symbol_among.Goals as goal

pub returns-then-count-eq0 : goal.returns-then-count-eq0
returns-then-count-eq0 c =
    let symbols = c.args.symbols.now in
    let point = IsPartitionPoint-from_clause (λ symbol. nat_le symbol.address c.args.address) symbols c.partition_point-count.result c.partition_point-count.ensures.partitioned
    (IsPartitionedBy-leb (λ symbol. symbol.address) symbols c.args.address c.requires) (λ a r f' k. search rules) in
    sym (none-at c.args.address symbols (λ k d within. is-after-if _ _ (point.1 k d (omega arith) within)))

pub returns : goal.returns
returns c =
    let symbols = c.args.symbols.now in
    let point = IsPartitionPoint-from_clause (λ symbol. nat_le symbol.address c.args.address) symbols c.partition_point-count.result c.partition_point-count.ensures.partitioned
    (IsPartitionedBy-leb (λ symbol. symbol.address) symbols c.args.address c.requires) (λ a r f' k. search rules) in
    let some : 0 < c.partition_point-count.result = omega arith in
    let within : c.partition_point-count.result - 1 < length symbols = omega arith in
    sym
    (last-at c.args.address symbols (c.partition_point-count.result - 1) _ within
    (is-before-if _ _ (point.0 (c.partition_point-count.result - 1) _ (omega arith) (omega arith)))
    (λ k e behind below. is-after-if _ _ (point.1 k e (omega arith) below)))
