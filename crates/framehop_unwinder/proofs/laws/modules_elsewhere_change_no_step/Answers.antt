use Rattle.std.proofs.Common.{Option, ap}
use Rattle.framehop_unwinder.specs.Attempt.{attempt_of}
use Rattle.framehop_unwinder.specs.Frames.{lookup_address}
use Rattle.framehop_unwinder.specs.Judge.{by_attempt}
use Rattle.framehop_unwinder.specs.Modules.{Loaded}
use Rattle.framehop_unwinder.proofs.Elsewhere.{elsewhere}
use Rattle.framehop_unwinder.proofs.laws.modules_elsewhere_change_no_step.Goals as goal

pub returns : goal.returns
returns g c = λ m new modules frame is registers words.
    ap (λ (found : Option (Loaded g.row.A-UnwindData.Denot)). by_attempt m frame.is_first registers words (attempt_of m frame.is_first (lookup_address frame) found))
    (elsewhere (lookup_address frame) new modules is.apart.ordered is.apart.ordered_with is.apart.outside is.not_found)
