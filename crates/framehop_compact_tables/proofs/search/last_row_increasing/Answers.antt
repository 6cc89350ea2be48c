use Rattle.std.proofs.Common.{◌-◌, arith}
use Rattle.framehop_compact_tables.proofs.Halving.{few-more, parted-last, parted-none}
use Rattle.framehop_compact_tables.proofs.search.last_row_increasing.Goals as goal

pub halve_counted-requires : goal.halve_counted-requires
halve_counted-requires g c = λ place within. omega (arith, c.requires place within)

pub returns-in-0-clause-row : goal.returns-in-0-clause-row
returns-in-0-clause-row g c =
    parted-none (g.T.Starts.count c.args.table.now) (g.T.Starts.start c.args.table.now) c.args.address c.halve_counted.result (omega arith) c.halve_counted.ensures.parts

pub returns-in-0-clause-few : goal.returns-in-0-clause-few
returns-in-0-clause-few g c = few-more (g.T.Starts.count c.args.table.now) _ _ c.halve_counted.ensures.few c.halve_counted.ensures.none

pub returns-in_default-clause-row : goal.returns-in_default-clause-row
returns-in_default-clause-row g c =
    parted-last (g.T.Starts.count c.args.table.now) (g.T.Starts.start c.args.table.now) c.args.address c.halve_counted.result (c.halve_counted.result - 1) (omega arith) c.halve_counted.ensures.parts

pub returns-in_default-clause-few : goal.returns-in_default-clause-few
returns-in_default-clause-few g c = few-more (g.T.Starts.count c.args.table.now) _ _ c.halve_counted.ensures.few c.halve_counted.ensures.none
