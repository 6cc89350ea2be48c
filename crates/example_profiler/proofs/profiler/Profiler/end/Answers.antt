use Rattle.std.proofs.Common.{ap}
use Rattle.framehop_unwinder.specs.IdViews.{unwinder_number}
use Rattle.example_profiler.proofs.Calls.{was-held}
use Rattle.example_profiler.proofs.Held.{still-some}
use Rattle.example_profiler.proofs.ProcessLaws.{gone, modules, others-stay}
use Rattle.example_profiler.proofs.profiler.Profiler.end.Goals as goal

pub returns-clause-ended : goal.returns-clause-ended
returns-clause-ended g c =
    let old = c.args.self.now.session in
    let number = unwinder_number c.args.process in
    let removed = c.in_ok-remove_unwinder.ensures.ok in
    record {
      followed = still-some _ _ (was-held _ c.remove_unwinder.result _ _ c.in_ok-remove_unwinder.field-0 c.remove_unwinder.ensures.found c.in_ok-remove_unwinder.was);
      gone = ap modules (gone old c.remove_unwinder.new.self number removed);
      others = λ other differ. ap modules (others-stay old c.remove_unwinder.new.self number removed (unwinder_number other) differ);
    }
