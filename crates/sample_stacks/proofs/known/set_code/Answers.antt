use Rattle.std.proofs.Common.{◌≡◌, ◌<◌, ◌≤◌, false, true, length, sym, arith}
use Rattle.std.proofs.lemmas.Option.{slice_get-get_or, slice_get_past}
use Rattle.sample_stacks.proofs.Found.{fewer-set, seen-set}
use Rattle.sample_stacks.proofs.known.set_code.Goals as goal

pub returns-in-Some-clause-ranges : goal.returns-in-Some-clause-ranges
returns-in-Some-clause-ranges c =
    let known = c.in-Some.known.now in
    seen-set c.args.ranges.now.items c.args.index known known c.args.code c.in-Some.ensures.item.3.0 (sym c.in-Some.ensures.value)

pub returns-in-Some-clause-fewer : goal.returns-in-Some-clause-fewer
returns-in-Some-clause-fewer c new =
    let items = c.args.ranges.now.items in
    let known = c.in-Some.known.now in
    let within = c.in-Some.ensures.item.3.0 in
    let is = sym c.in-Some.ensures.value in
    rw (slice_get-get_or items c.args.index known within, is) (λ old. fewer-set items c.args.index known known c.args.code within is new old)

pub returns-in_default-clause-fewer : goal.returns-in_default-clause-fewer
returns-in_default-clause-fewer c new =
    let outside : c.args.index < length c.args.ranges.now.items → ⊥ = λ within.
    (let no : false ≡ true = c.in_default.ensures.variant.1 (omega arith) in cc) in
    rw (slice_get_past c.args.ranges.now.items c.args.index (omega arith)) tt
