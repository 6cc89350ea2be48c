use Rattle.std.proofs.Common.{ap, sym, ◌∙◌, get_or, None}
use Rattle.std.specs.Prelude.{is_some}
use Rattle.framehop_unwinder.proofs.ByNumbers.{by-number-read, by-number-none, by-number-set}
use Rattle.framehop_unwinder.proofs.numbered.Numbered.remove.Goals as goal

pub returns-in_default-clause-held : goal.returns-in_default-clause-held
returns-in_default-clause-held g c =
    let s = c.args.self.now in
    sym (ap is_some (by-number-none s.numbers.items s.values.items s.next c.requires c.args.place.number c.in_default.ensures.nowhere))

pub returns-then-is_none-clause-held : goal.returns-then-is_none-clause-held
returns-then-is_none-clause-held g c =
    let s = c.args.self.now in
    let is = by-number-read s.numbers.items s.values.items s.next c.requires c.in-Some.slot c.args.place.number c.index.result.now c.in-Some.ensures.inside c.in-Some.ensures.here c.index.ensures in
    sym (ap is_some is ∙ c.if-is_none.ensures)

pub returns-clause-held : goal.returns-clause-held
returns-clause-held g c =
    let s = c.args.self.now in
    let is = by-number-read s.numbers.items s.values.items s.next c.requires c.in-Some.slot c.args.place.number c.index.result.now c.in-Some.ensures.inside c.in-Some.ensures.here c.index.ensures in
    sym (ap is_some is ∙ c.if-is_none.ensures)

pub returns-clause-removed : goal.returns-clause-removed
returns-clause-removed g c = λ done.
    let s = c.args.self.now in
    by-number-set s.numbers.items s.values.items s.next c.requires c.in-Some.slot c.args.place.number None c.in-Some.ensures.inside c.in-Some.ensures.here
