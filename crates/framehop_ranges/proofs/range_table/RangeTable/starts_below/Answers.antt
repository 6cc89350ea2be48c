use Rattle.std.proofs.Common.{◌≡◌, ◌^◌, arith, length}
use Rattle.framehop_ranges.proofs.BlockLaws.{block-kept, block-after}
use Rattle.framehop_ranges.proofs.range_table.RangeTable.starts_below.Goals as goal

pub returns-in-Some : goal.returns-in-Some
returns-in-Some g c =
    let table = c.args.self.now in
    block-kept (2 ^ table.shift) table.entries.items table.blocks.items c.args.block c.in-Some.passed.now table.counted
    (rw c.deref.ensures.value at c.in-Some.ensures.lookup.0) (rw c.deref.ensures.value at c.in-Some.ensures.lookup.1)

pub returns-in-None : goal.returns-in-None
returns-in-None g c =
    let table = c.args.self.now in
    let all = block-after (2 ^ table.shift) table.entries.items table.blocks.items c.args.block table.counted (rw c.deref.ensures.value at c.in-None.ensures.lookup.0) in
    let same : c.len.result ≡ length table.entries.items = omega (arith, table.entries.ok.0) in
    rw same all
