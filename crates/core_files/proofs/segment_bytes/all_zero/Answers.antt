use Rattle.std.proofs.Common.{arith, sym, ◌∙◌}
use Rattle.core_files.proofs.Zeros.{zero-next, zero-end}
use Rattle.core_files.proofs.segment_bytes.all_zero.Goals as goal

pub loop-byte-preserved : goal.loop-byte-preserved
loop-byte-preserved c = sym (zero-next c.args.block.now c.loop-byte.any c.loop-byte.byte-index (omega (arith, c.loop-byte-test.true))) ∙ c.loop-byte.invariant

pub returns : goal.returns
returns c = sym (zero-end c.args.block.now c.loop-byte.any c.loop-byte.byte-index (omega (arith, c.loop-byte-test.false))) ∙ c.loop-byte.invariant
