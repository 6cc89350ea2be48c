use Rattle.std.proofs.Common.{◌≡◌, Err, ap}
use Rattle.dwarf_frame_parts.specs.RowParts.{parts_as}
use Rattle.framehop_errors.specs.declared.dwarf.DwarfUnwinderError.TheVariants.{OutOfMemory}
use Rattle.framehop_rows.proofs.TakenParts.{answers-by_rule, answers-by_caller, answers-by_refusal, expression-met}
use Rattle.framehop_rows.proofs.rows.unwind_frame_by_parts.Goals as goal

pub returns-in-Some-clause-answers : goal.returns-in-Some-clause-answers
returns-in-Some-clause-answers g c =
    let a = g.A.PartsUnwinding in
    let section = g.R.Reader.stretch (g.Section._UnwindSectionPrivate.reader c.args.section.now) in
    let parts = parts_as g.R.Offset.ReaderOffset.value c.args.parts.now in
    answers-by_rule a.scaled_rule a.direct_answer c.args.is_first_frame g.S.Stack.ArrayLike.capacity c.args.encoding.address_size section parts
    _ c.args.regs.now c.in-Some.rule c.in-Some.ensures.rule

pub returns-in-Ok-clause-answers : goal.returns-in-Ok-clause-answers
returns-in-Ok-clause-answers g c =
    let a = g.A.PartsUnwinding in
    let section = g.R.Reader.stretch (g.Section._UnwindSectionPrivate.reader c.args.section.now) in
    let parts = parts_as g.R.Offset.ReaderOffset.value c.args.parts.now in
    answers-by_caller a.scaled_rule a.direct_answer c.args.is_first_frame g.S.Stack.ArrayLike.capacity c.args.encoding.address_size section parts
    _ _ c.args.regs.now c.unwind_by_parts.new.regs c.in-Ok.return_address c.in_default.ensures.rule c.in-Ok.ensures.caller.answer

pub returns-in-Err-clause-answers : goal.returns-in-Err-clause-answers
returns-in-Err-clause-answers g c =
    let a = g.A.PartsUnwinding in
    let section = g.R.Reader.stretch (g.Section._UnwindSectionPrivate.reader c.args.section.now) in
    let parts = parts_as g.R.Offset.ReaderOffset.value c.args.parts.now in
    answers-by_refusal a.scaled_rule a.direct_answer c.args.is_first_frame g.S.Stack.ArrayLike.capacity c.args.encoding.address_size section parts
    _ _ c.args.regs.now c.unwind_by_parts.new.regs c.in-Err.error c.in_default.ensures.rule c.in-Err.ensures.caller.registers c.in-Err.ensures.caller.answer

pub returns-in-Err-clause-expression : goal.returns-in-Err-clause-expression
returns-in-Err-clause-expression g c h =
    let a = g.A.PartsUnwinding in
    let section = g.R.Reader.stretch (g.Section._UnwindSectionPrivate.reader c.args.section.now) in
    let parts = parts_as g.R.Offset.ReaderOffset.value c.args.parts.now in
    let same : c.in-Err.error ≡ OutOfMemory = cc in
    expression-met a.scaled_rule a.direct_answer c.args.is_first_frame g.S.Stack.ArrayLike.capacity c.args.encoding.address_size section parts
    c.in_default.ensures.rule (c.in-Err.ensures.expression (ap (λ e. Err e) same))
