-- The starts of a block are those between what it and the next one have below them.
use Rattle.std.proofs.Common.{◌^◌}
use Rattle.std.proofs.lemmas.Nat.{pow_pos}
use Rattle.framehop_ranges.proofs.BlockLaws.{block-part, few-in-block}
use Rattle.framehop_ranges.proofs.PartLaws.{near-part}
use Rattle.framehop_ranges.proofs.range_table.RangeTable.part.Goals as goal

pub returns-clause-part : goal.returns-clause-part
returns-clause-part g c =
    block-part c.args.self.now.entries.items c.args.self.now.rises (2 ^ c.args.self.now.shift) c.args.address c.block_of-block.result _ _ c.block_of-block.ensures.low c.block_of-block.ensures.high
    c.starts_below-first.ensures c.starts_below-end.ensures

pub returns-clause-few : goal.returns-clause-few
returns-clause-few g c =
    few-in-block c.args.self.now.entries.items c.args.self.now.rises (2 ^ c.args.self.now.shift) c.args.address c.block_of-block.result _ _ c.block_of-block.ensures.low c.block_of-block.ensures.high
    c.starts_below-first.ensures c.starts_below-end.ensures

pub returns-clause-near : goal.returns-clause-near
returns-clause-near g c =
    let entries = c.args.self.now.entries.items in
    let size = 2 ^ c.args.self.now.shift in
    let part = block-part entries c.args.self.now.rises size c.args.address c.block_of-block.result _ _ c.block_of-block.ensures.low c.block_of-block.ensures.high
    c.starts_below-first.ensures c.starts_below-end.ensures in
    near-part entries size c.args.address c.block_of-block.result c.starts_below-first.result c.starts_below-end.result (pow_pos c.args.self.now.shift) c.block_of-block.ensures.low c.block_of-block.ensures.high
    part.order c.starts_below-first.ensures c.starts_below-end.ensures
