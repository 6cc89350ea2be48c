use Rattle.std.proofs.Common.{◌-◌, length}
use Rattle.framehop_pe_codes.proofs.PopRuns.{IsPopRun}
use Rattle.framehop_pe_codes.proofs.epilog.pops_size.Given as goal

abbrev pub invariant-pops : goal.invariant-pops
invariant-pops l = IsPopRun l.ends l.bytes l.size

abbrev pub decreases-pops : goal.decreases-pops
decreases-pops l = length l.bytes - l.size
