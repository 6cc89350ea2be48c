use Rattle.std.proofs.Common.{◌∙◌, ap}
use Rattle.framehop_unwinder.specs.Modules.{Loaded, Loads, last_end}
use Rattle.framehop_unwinder.proofs.ModulesInOrder.{last-end-at}
use Rattle.framehop_unwinder.proofs.unwinder.UnwinderInternalUnwinder.max_known_code_address.Goals as goal

pub returns-in-Some : goal.returns-in-Some
returns-in-Some g c =
    let D = g.row.A-UnwindData.Denot in
    let end = λ (m : Loaded D). m.end in
    let same = c.deref.ensures.value ∙ ap (λ (l : Loads (Loaded D)). l.modules) c.self.view_is in
    c.end.ensures ∙ last-end-at (λ (m : Loaded D). m.start) end c.deref.result.now c.in-Some.module.now c.in-Some.ensures.item.3.0 c.in-Some.ensures.item.1 ∙ ap (last_end end) same
