use Rattle.std.proofs.Common.{ap, sym, ◌∙◌, get_or, None}
use Rattle.std.specs.Prelude.{is_some}
use Rattle.framehop_unwinder.proofs.ByNumbers.{by-number-read, by-number-none}
use Rattle.framehop_unwinder.proofs.numbered.Numbered.holds.Goals as goal

pub returns-in-Some : goal.returns-in-Some
returns-in-Some g c =
    let s = c.args.self.now in
    let is = by-number-read s.numbers.items s.values.items s.next c.requires c.in-Some.slot c.args.place.number c.index.result.now c.in-Some.ensures.inside c.in-Some.ensures.here c.index.ensures in
    c.is_some.ensures ∙ ap is_some (sym is)

pub returns-in-None : goal.returns-in-None
returns-in-None g c =
    let s = c.args.self.now in
    sym (ap is_some (by-number-none s.numbers.items s.values.items s.next c.requires c.args.place.number c.in-None.ensures.nowhere))
