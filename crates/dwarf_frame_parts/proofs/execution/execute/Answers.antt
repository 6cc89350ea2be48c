use Rattle.std.proofs.Common.{refl, ◌∙◌}
use Rattle.dwarf_frame_instructions.specs.StateViews.{effect_as}
use Rattle.dwarf_frame_parts.specs.Execution.{frame_of}
use Rattle.dwarf_frame_parts.proofs.PartsSteps.{stays-else, stays-seen, step-seen, step-written}
use Rattle.dwarf_frame_parts.proofs.execution.execute.Goals as goal

pub returns-then-apply : goal.returns-then-apply
returns-then-apply g c = λ limits initial executed room follows.
    let number = g.T.ReaderOffset.value in
    let effect = c.in-Ok.effect in
    let frame = frame_of c.args.factors.now limits initial in
    let did = c.if-apply.ensures refl limits initial executed room follows in (
      effect_as number effect,
      step-seen number c.args.factors.now c.args.location frame refl executed c.args.instruction effect c.in-Ok.ensures
          ∙ step-written frame executed (effect_as number effect) (stays-seen number effect (stays-else effect c.in_default-effect.not-Move)) did.0,
      did.1,
    )
