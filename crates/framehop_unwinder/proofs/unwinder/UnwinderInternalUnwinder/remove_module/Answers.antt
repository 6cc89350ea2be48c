use Rattle.std.proofs.Common.{ap, sym, ◌∙◌}
use Rattle.framehop_unwinder.specs.Modules.{Loaded, Loads, has_start}
use Rattle.framehop_unwinder.proofs.ModulesInOrder.{without-none}
use Rattle.framehop_unwinder.proofs.unwinder.UnwinderInternalUnwinder.remove_module.Goals as goal

pub returns-in_default-clause-modules : goal.returns-in_default-clause-modules
returns-in_default-clause-modules g c =
    let D = g.row.A-UnwindData.Denot in
    let start = λ (m : Loaded D). m.start in
    let same = c.deref.ensures.value ∙ ap (λ (l : Loads (Loaded D)). l.modules) c.self.view_is in
    without-none start c.args.self.now.modules c.args.module_avma_range_start
    (ap (has_start start c.args.module_avma_range_start) (sym same) ∙ c.in_default.ensures.none)
