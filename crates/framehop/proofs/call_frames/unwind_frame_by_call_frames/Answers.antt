use Rattle.std.proofs.Common.{Option, Some, None, ap, ◌∙◌}
use Rattle.std.specs.Prelude.{option_map}
use Rattle.framehop_index.specs.FdeLookups.{PlacedFrames}
use Rattle.framehop_loads.specs.CallFrames.{frames_of}
use Rattle.framehop.specs.Methods.{Method, method_by_frames}
use Rattle.framehop.proofs.MethodAnswers.{method-as}
use Rattle.framehop.proofs.call_frames.unwind_frame_by_call_frames.Goals as goal

pub returns-in-Some-clause-answers : goal.returns-in-Some-clause-answers
returns-in-Some-clause-answers g c =
    let frames = c.args.frames.now in
    let relative = c.args.relative_address in
    let by : Option PlacedFrames → Method g.row.A-UnwindRule.Denot g.row.A-UnwindRegs.Denot = λ o. method_by_frames (frames_of frames.main o relative) relative in
    method-as g.A.DwarfUnwinding.rows g.A.DwarfUnwinding.MeetsExpression g.P.AllocationPolicy.limits g.P.AllocationPolicy.may_allocate c.args.is_first_frame _ _ _ _ _ _ _
    (ap by c.in-Some.ensures)
    c.unwind_frame_by_both.ensures.answers

pub returns-in-None-clause-answers : goal.returns-in-None-clause-answers
returns-in-None-clause-answers g c =
    let frames = c.args.frames.now in
    let relative = c.args.relative_address in
    let by : Option PlacedFrames → Method g.row.A-UnwindRule.Denot g.row.A-UnwindRegs.Denot = λ o. method_by_frames (frames_of frames.main o relative) relative in
    method-as g.A.DwarfUnwinding.rows g.A.DwarfUnwinding.MeetsExpression g.P.AllocationPolicy.limits g.P.AllocationPolicy.may_allocate c.args.is_first_frame _ _ _ _ _ _ _
    (ap by c.in-None.ensures)
    c.unwind_frame_by_main.ensures.answers
