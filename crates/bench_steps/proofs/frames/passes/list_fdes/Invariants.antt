use Rattle.std.proofs.Common.{length}
use Rattle.bench_steps.proofs.frames.passes.list_fdes.Given as goal

abbrev pub decreases-entries : goal.decreases-entries
decreases-entries g l = length l.entries.entries
