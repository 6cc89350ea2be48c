-- What a search in a part says of all.
use Rattle.framehop_ranges.proofs.PartLaws.{parted}
use Rattle.framehop_ranges.proofs.range_table.RangeTable.look_up.Goals as goal

pub value_of-requires-clause-partition : goal.value_of-requires-clause-partition
value_of-requires-clause-partition g c =
    let found = c.halve_items-halved.ensures in
    parted c.args.self.now.entries.items c.args.address c.part-first.result.first c.part-first.result.end c.part-first.ensures.part c.halve_items-halved.result.at_or_below
    (rw c.deref.ensures.value at found.bound) (rw c.deref.ensures.value at found.partition)
