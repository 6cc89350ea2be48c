use Rattle.std.proofs.Common.{arith}
use Rattle.framehop_ranges.proofs.BlockLaws.{from-on}
use Rattle.framehop_ranges.proofs.blocks.passed_from.Goals as goal

pub returns-then-limit-from : goal.returns-then-limit-from
returns-then-limit-from g c = record {
  bound = omega (arith, c.starts-test.true);
  below = c.starts.invariant.below;
  above = from-on c.args.entries.now c.args.limit c.starts.passed c.index-entries-passed.result c.requires.ordered c.starts-test.true (omega (arith, c.if-limit-from.true, c.from.ensures));
}
