use Rattle.sorted_starts.proofs.Halving.{parted-items, sorted-items}
use Rattle.sorted_starts.proofs.halves.halve_items.Goals as goal

pub halve-requires : goal.halve-requires
halve-requires g c = sorted-items g.T.HasStart.start c.args.items.now c.requires

pub returns-clause-partition : goal.returns-clause-partition
returns-clause-partition g c = parted-items g.T.HasStart.start c.args.items.now c.args.limit c.halve.result.at_or_below c.halve.ensures.parts
