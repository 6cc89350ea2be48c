use Rattle.std.proofs.Common.{◌≡◌, ◌≤◌, ◌*◌, ◌+◌, ◌^◌, ◌-◌, length}
use Rattle.framehop_ranges.specs.Blocks.{Passes}
use Rattle.framehop_ranges.proofs.BlockLaws.{Each}
use Rattle.framehop_ranges.proofs.blocks.blocks_of.Given as goal

abbrev pub invariant-limits : goal.invariant-limits
invariant-limits g l = record {
  size : l.size ≡ 2 ^ l.fn.shift;
  limit : l.limit ≡ length l.blocks.items * l.size;
  fits : l.limit ≤ 2 ^ 32 + l.size;
  blocks : Each l.size l.entries l.blocks.items;
  passed : Passes l.limit l.entries l.passed;
}

abbrev pub decreases-limits : goal.decreases-limits
decreases-limits g l = 2 ^ 32 + l.size - l.limit
