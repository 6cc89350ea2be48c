use Rattle.std.proofs.Common.{◌≡◌}
use Rattle.std.specs.Prelude.{◌||◌, Ok}
use Rattle.framehop_pe_codes.specs.CodesToUndo.{sets_frame}
use Rattle.framehop_pe_codes.specs.InfoViews.{bytes_left, operations_left}
use Rattle.framehop_pe_codes.specs.Refusals.{result_and_then}
use Rattle.framehop_pe_codes.proofs.run.has_set_frame.Given as goal

abbrev pub invariant-codes : goal.invariant-codes
invariant-codes l = result_and_then (operations_left l.rest) (λ operations. Ok (l.is_set || sets_frame operations))
    ≡ result_and_then (operations_left l.fn.left) (λ operations. Ok (sets_frame operations))

abbrev pub decreases-codes : goal.decreases-codes
decreases-codes l = bytes_left l.rest
