use Rattle.std.proofs.Common.{◌≡◌, None}
use Rattle.fold_stacks.specs.Places.{number_among}
use Rattle.fold_stacks.proofs.PlaceSlots.{slots-kept}
use Rattle.fold_stacks.proofs.places.PlaceNumbers.keep.Goals as goal

pub invariant_of-self-2 : goal.invariant_of-self-2
invariant_of-self-2 c =
    let none : number_among c.self.inside.known.entries c.args.key ≡ None = rw c.self.view_is c.requires in
    slots-kept c.self.inside.known.entries c.insert.new.self.entries c.self.inside.slots.items c.start.new.slots.items c.put.new.slots.items c.args.key c.args.number none
    (λ other. c.in_ok-insert.ensures.updates.0 other) c.self.invariant c.start.ensures c.put.ensures

pub returns-clause-ok : goal.returns-clause-ok
returns-clause-ok c = λ other. rw (← c.self.view_is) (c.in_ok-insert.ensures.updates.0 other)
