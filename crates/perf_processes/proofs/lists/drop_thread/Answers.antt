use Rattle.std.proofs.Common.{rules, of_calls}
use Rattle.std.proofs.lemmas.Fn.{filter_same}
use Rattle.perf_processes.specs.Processes.{is_not_of_thread}
use Rattle.perf_processes.proofs.lists.drop_thread.Goals as goal

pub returns : goal.returns
returns c = filter_same _ (is_not_of_thread c.args.thread) _ (λ x b f k. search (rules, of_calls)) _ _ c.retain.ensures.filtered
