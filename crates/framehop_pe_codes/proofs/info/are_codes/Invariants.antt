use Rattle.std.proofs.Common.{length}
use Rattle.std.specs.Prelude.{◌↔◌, IsSome}
use Rattle.framehop_pe_codes.specs.Codes.{codes_of}
use Rattle.framehop_pe_codes.proofs.info.are_codes.Given as goal

-- what is left are codes exactly where all are
abbrev pub invariant-codes : goal.invariant-codes
invariant-codes l = IsSome (codes_of l.is_framed l.rest) ↔ IsSome (codes_of l.is_framed l.fn.bytes)

abbrev pub decreases-codes : goal.decreases-codes
decreases-codes l = length l.rest
