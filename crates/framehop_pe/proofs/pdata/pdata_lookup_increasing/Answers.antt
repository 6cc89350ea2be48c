use Rattle.std.proofs.Common.{◌∙◌, ◌-◌, arith}
use Rattle.framehop_pe.proofs.Halves.{found-at, found-none}
use Rattle.framehop_pe.proofs.pdata.pdata_lookup_increasing.Goals as goal

pub halve_counted-requires : goal.halve_counted-requires
halve_counted-requires g c = λ place within. omega (arith, (c.requires place within).0)

pub returns-in-0-clause-found : goal.returns-in-0-clause-found
returns-in-0-clause-found g c =
    found-none c.args.bytes.now c.requires c.args.address (λ row from inside. c.halve_counted.ensures.parts.above row (omega (arith, c.in-0.is)) inside)

pub returns-in_default-clause-found : goal.returns-in_default-clause-found
returns-in_default-clause-found g c =
    let last = c.halve_counted.result - 1 in
    let parts = c.halve_counted.ensures.parts in
    c.candidate.ensures
    ∙ found-at c.args.bytes.now c.requires c.args.address last (omega (arith, parts.bound)) (parts.below last (omega arith)) (λ row from inside. parts.above row (omega arith) inside)
