use Rattle.std.proofs.Common.{Some, sym, arith, refl, ◌≡◌, ◌+◌, ℕ, suc}
use Rattle.framehop_unwinder.proofs.ByNumbers.{by-number-length, by-number-reused, by-number-pushed, numbered-pushed}
use Rattle.framehop_unwinder.proofs.numbered.Numbered.add.Goals as goal

pub returns-in-Some-clause-number : goal.returns-in-Some-clause-number
returns-in-Some-clause-number g c = sym (by-number-length c.args.self.now.numbers.items c.args.self.now.values.items c.args.self.now.next)

pub returns-in-Some-clause-added : goal.returns-in-Some-clause-added
returns-in-Some-clause-added g c =
    by-number-reused c.args.self.now.numbers.items c.args.self.now.values.items c.args.self.now.next c.requires c.in-Some.slot (c.args.self.now.next + 1) (Some c.args.value)
    (rw c.deref.ensures.value at c.in-Some.ensures.inside) (omega arith) (rw c.deref.ensures.value at c.in-Some.ensures.vacant)

pub returns-clause-number : goal.returns-clause-number
returns-clause-number g c = sym (by-number-length c.args.self.now.numbers.items c.args.self.now.values.items c.args.self.now.next)

pub returns-clause-added : goal.returns-clause-added
returns-clause-added g c =
    rw (c.push_reserved.ensures.items, c.push_reserved-2.ensures.items, c.in_ok-reserve.ensures.items, c.in_ok-reserve-2.ensures.items)
    (by-number-pushed c.args.self.now.numbers.items c.args.self.now.values.items c.args.self.now.next c.requires (c.args.self.now.next + 1) (Some c.args.value) (omega arith))

pub returns-clause-numbered : goal.returns-clause-numbered
returns-clause-numbered g c =
    rw (c.push_reserved.ensures.items, c.push_reserved-2.ensures.items, c.in_ok-reserve.ensures.items, c.in_ok-reserve-2.ensures.items)
    (numbered-pushed c.args.self.now.numbers.items c.args.self.now.values.items c.args.self.now.next c.requires (c.args.self.now.next + 1) (Some c.args.value) (omega arith))
