use Rattle.std.proofs.Common.{Ok, ap, sym, ◌∙◌}
use Rattle.std.proofs.lemmas.Result.{err_from_is_err_and}
use Rattle.dwarf_frame_rows.specs.Contexts.{state_of}
use Rattle.dwarf_frame_instructions.specs.Effects.{effect_of}
use Rattle.dwarf_frame_instructions.specs.Programs.{destination_of}
use Rattle.dwarf_frame_instructions.proofs.Execution.{executes_effect, executes_refused}
use Rattle.dwarf_frame_instructions.proofs.rows.execute_frequent.Goals as goal

pub returns-in_err-apply-in-Offset-clause-executed : goal.returns-in_err-apply-in-Offset-clause-executed
returns-in_err-apply-in-Offset-clause-executed g c =
    let limits = g.S.UnwindContextStorage.limits in
    let old = state_of g.S-Stack-ArrayLike.items c.args.context.now in
    let new = state_of g.S-Stack-ArrayLike.items c.apply-in-Offset.new.self in
    let p = err_from_is_err_and c.from_residual-in_err-apply-in-Offset.result c.from_residual-in_err-apply-in-Offset.ensures.1 in
    rw (p.1, p.2) (executes_refused g.T.ReaderOffset.value g.S.UnwindContextStorage.never_allocates limits c.args.factors.now c.args.location c.args.instruction old
    c.stored_at.result (ap (λ e. Ok e) c.stored_at.ensures ∙ ap (effect_of c.args.factors.now c.args.location) (sym c.in-Offset.is)) (ap (λ e. destination_of e) (sym c.stored_at.ensures))
    new c.in_err-apply-in-Offset.field-0.0
    c.in_err-apply-in-Offset.ensures.acts.refused c.in_err-apply-in-Offset.ensures.memory)

pub returns-in_ok-apply-in-Offset-clause-executed : goal.returns-in_ok-apply-in-Offset-clause-executed
returns-in_ok-apply-in-Offset-clause-executed g c =
    let limits = g.S.UnwindContextStorage.limits in
    let old = state_of g.S-Stack-ArrayLike.items c.args.context.now in
    let new = state_of g.S-Stack-ArrayLike.items c.apply-in-Offset.new.self in
    executes_effect g.T.ReaderOffset.value g.S.UnwindContextStorage.never_allocates limits c.args.factors.now c.args.location c.args.instruction old
    c.stored_at.result (ap (λ e. Ok e) c.stored_at.ensures ∙ ap (effect_of c.args.factors.now c.args.location) (sym c.in-Offset.is)) (ap (λ e. destination_of e) (sym c.stored_at.ensures))
    new c.in_ok-apply-in-Offset.ensures.acts.done
