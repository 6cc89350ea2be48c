use Rattle.std.proofs.Common.{arith}
use Rattle.framehop_index.proofs.Rising.{rises-by-steps}
use Rattle.framehop_index.proofs.cfi_index.starts_rise.Goals as goal

pub returns : goal.returns
returns c is = rises-by-steps (λ fde. fde.start) c.args.fdes.now (λ k d within. c.rising.invariant.steps k d (omega (arith, c.rising-test.false)) within)
