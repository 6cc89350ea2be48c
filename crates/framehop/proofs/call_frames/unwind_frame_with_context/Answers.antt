use Rattle.framehop_loads.specs.StepLimits.{step_limits}
use Rattle.framehop_index.specs.SectionTypes.{frame_section_lent}
use Rattle.framehop.proofs.MethodAnswers.{known-answers, known-fails, policy-as}
use Rattle.framehop.proofs.call_frames.unwind_frame_with_context.Goals as goal

pub returns-in-Ok-clause-answers : goal.returns-in-Ok-clause-answers
returns-in-Ok-clause-answers g c =
    let m = g.A.DwarfUnwinding.rows in
    let meets = g.A.DwarfUnwinding.MeetsExpression in
    let limits = step_limits g.P.GimliUnwindContextStorage.UnwindContextStorage.limits g.P.GimliEvaluationStorage.Stack.ArrayLike.capacity in
    let in_place = g.P.GimliEvaluationStorage.Stack.ArrayLike.is_made_in_place in
    let first = c.args.is_first_frame in
    let section = frame_section_lent c.args.bases c.args.section.now in
    policy-as m meets first _ _ _ _ _ _ _ _ _ _ g.met.P.AllocationPolicy.limited g.met.P.AllocationPolicy.taken
    (known-answers m meets limits in_place first section c.args.address c.args.known.now _ _ _ _ c.in-Ok.answer c.in-Ok.ensures.answers)

pub returns-in-Err-clause-answers : goal.returns-in-Err-clause-answers
returns-in-Err-clause-answers g c =
    let m = g.A.DwarfUnwinding.rows in
    let meets = g.A.DwarfUnwinding.MeetsExpression in
    let limits = step_limits g.P.GimliUnwindContextStorage.UnwindContextStorage.limits g.P.GimliEvaluationStorage.Stack.ArrayLike.capacity in
    let in_place = g.P.GimliEvaluationStorage.Stack.ArrayLike.is_made_in_place in
    let first = c.args.is_first_frame in
    let section = frame_section_lent c.args.bases c.args.section.now in
    policy-as m meets first _ _ _ _ _ _ _ _ _ _ g.met.P.AllocationPolicy.limited g.met.P.AllocationPolicy.taken
    (known-fails m meets limits in_place first section c.args.address c.args.known.now _ _ _ _ c.in-Err.error c.failure_of.result c.failure_of.ensures c.in-Err.ensures.memory c.in-Err.ensures.answers)
