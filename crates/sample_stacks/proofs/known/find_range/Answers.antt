use Rattle.std.proofs.Common.{sym}
use Rattle.sample_stacks.proofs.Found.{found-at}
use Rattle.sample_stacks.proofs.known.find_range.Goals as goal

pub returns-clause-found : goal.returns-clause-found
returns-clause-found c apart =
    let looked = c.in-Some.ensures.lookup in
    let known = c.in-Some.known.now in
    found-at c.args.address 0 c.args.ranges.now c.partition_point-index.result known known looked.3.0 (sym (looked.3.1 known))
    c.if-address-known.false c.if-known-address.false apart
