use Rattle.std.proofs.Common.{Err, ap, sym, ◌∙◌}
use Rattle.std.proofs.lemmas.Result.{err_from_is_err_and}
use Rattle.dwarf_frame_rows.specs.Contexts.{state_of}
use Rattle.dwarf_constants.specs.declared.error.Error.{Error}
use Rattle.dwarf_frame_instructions.proofs.Memory.{effect_found}
use Rattle.dwarf_frame_instructions.proofs.Execution.{executes_effect, executes_move, executes_none, executes_refused}
use Rattle.dwarf_frame_instructions.proofs.rows.execute.Goals as goal

pub returns-in_err-effect : goal.returns-in_err-effect
returns-in_err-effect g c =
    let limits = g.S.UnwindContextStorage.limits in
    let old = state_of g.S-Stack-ArrayLike.items c.args.context.now in
    let p = err_from_is_err_and c.from_residual.result c.from_residual.ensures.1 in
    rw (p.1, p.2) (record {
      executed = executes_none g.T.ReaderOffset.value g.S.UnwindContextStorage.never_allocates limits c.args.factors.now c.args.location c.args.instruction old
          c.in_err-effect.field-0.0 (sym c.in_err-effect.ensures) old;
      memory = λ _ is. (effect_found c.args.factors.now c.args.location c.args.instruction).never (sym c.in_err-effect.ensures ∙ ap (λ (e : Error). Err e) is);
    })

pub returns-in-Some : goal.returns-in-Some
returns-in-Some g c =
    let limits = g.S.UnwindContextStorage.limits in
    let old = state_of g.S-Stack-ArrayLike.items c.args.context.now in
    record {
      executed = executes_move g.T.ReaderOffset.value g.S.UnwindContextStorage.never_allocates limits c.args.factors.now c.args.location c.args.instruction old
          c.in_ok-effect.effect c.in-Some.next c.in_ok-effect.ensures c.in-Some.ensures;
      memory = λ _. tt;
    }

pub returns-in_err-apply-in-None : goal.returns-in_err-apply-in-None
returns-in_err-apply-in-None g c =
    let limits = g.S.UnwindContextStorage.limits in
    let old = state_of g.S-Stack-ArrayLike.items c.args.context.now in
    let new = state_of g.S-Stack-ArrayLike.items c.apply.new.self in
    let p = err_from_is_err_and c.from_residual-in_err-apply-in-None.result c.from_residual-in_err-apply-in-None.ensures.1 in
    rw (p.1, p.2) (record {
      executed = executes_refused g.T.ReaderOffset.value g.S.UnwindContextStorage.never_allocates limits c.args.factors.now c.args.location c.args.instruction old
          c.in_ok-effect.effect c.in_ok-effect.ensures c.in-None.ensures new c.in_err-apply-in-None.field-0.0
          c.in_err-apply-in-None.ensures.acts.refused c.in_err-apply-in-None.ensures.memory;
      memory = c.in_err-apply-in-None.ensures.memory;
    })

pub returns-in_ok-apply-in-None : goal.returns-in_ok-apply-in-None
returns-in_ok-apply-in-None g c =
    let limits = g.S.UnwindContextStorage.limits in
    let old = state_of g.S-Stack-ArrayLike.items c.args.context.now in
    let new = state_of g.S-Stack-ArrayLike.items c.apply.new.self in
    record {
      executed = executes_effect g.T.ReaderOffset.value g.S.UnwindContextStorage.never_allocates limits c.args.factors.now c.args.location c.args.instruction old
          c.in_ok-effect.effect c.in_ok-effect.ensures c.in-None.ensures new c.in_ok-apply-in-None.ensures.acts.done;
      memory = λ _. tt;
    }
