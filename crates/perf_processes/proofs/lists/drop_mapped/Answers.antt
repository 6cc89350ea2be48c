use Rattle.std.proofs.Common.{rules, of_calls}
use Rattle.std.proofs.lemmas.Fn.{filter_same}
use Rattle.perf_processes.specs.Processes.{maps_other}
use Rattle.perf_processes.proofs.lists.drop_mapped.Goals as goal

pub returns : goal.returns
returns c = filter_same _ (maps_other c.args.pid) _ (λ x b f k. search (rules, of_calls)) _ _ c.retain.ensures.filtered
