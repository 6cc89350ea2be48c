use Rattle.std.proofs.Common.{◌≡◌, ◌≤◌}
use Rattle.framehop_pe_codes.specs.InfoViews.{bytes_left, operations_left}
use Rattle.framehop_pe_codes.proofs.chain.CodesLeft.next.Given as goal

abbrev pub invariant-infos : goal.invariant-infos
invariant-infos l = record {
  same : operations_left l.fn.self ≡ operations_left l.self;
  less : bytes_left l.self ≤ bytes_left l.fn.self;
}

abbrev pub decreases-infos : goal.decreases-infos
decreases-infos l = bytes_left l.self
