use Rattle.std.proofs.Common.{sym}
use Rattle.fold_stacks.proofs.places.PlaceNumbers.get.Goals as goal

pub returns-in-Some-clause-number : goal.returns-in-Some-clause-number
returns-in-Some-clause-number c =
    let there = rw c.as_slice.ensures.value at c.in-Some.ensures.1 in
    rw (← c.self.view_is) (sym (c.self.invariant c.in-Some.ensures.0 (record { key = c.args.key; number = c.in-Some.number }) there))
