use Rattle.perf_processes.proofs.MappingLaws.{mapped-by-changes}
use Rattle.perf_processes.proofs.laws.mapped_by_the_latest_change.Goals as goal

pub returns : goal.returns
returns c = mapped-by-changes
