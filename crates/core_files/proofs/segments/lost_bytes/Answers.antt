use Rattle.std.proofs.Common.{arith}
use Rattle.core_files.proofs.Words.{length-after-zeros}
use Rattle.core_files.proofs.segments.lost_bytes.Goals as goal

pub returns : goal.returns
returns c = omega (arith, length-after-zeros c.args.zeros c.args.bytes.now, c.saturating_sub-after.ensures, c.saturating_sub.ensures)
