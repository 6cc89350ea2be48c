use Rattle.std.proofs.Common.{◌≡◌, ◌≤◌, length}
use Rattle.std.specs.Option.{option_map}
use Rattle.framehop_pe_codes.specs.Codes.{codes_of}
use Rattle.framehop_pe_codes.specs.Infos.{ran_codes}
use Rattle.framehop_pe_codes.proofs.chain.ran_codes.Given as goal

abbrev pub invariant-codes : goal.invariant-codes
invariant-codes l = record {
  same : option_map (ran_codes l.offset) (codes_of l.is_framed l.rest) ≡ option_map (ran_codes l.offset) (codes_of l.is_framed l.fn.codes);
  few : length l.rest ≤ length l.fn.codes;
}

abbrev pub decreases-codes : goal.decreases-codes
decreases-codes l = length l.rest
