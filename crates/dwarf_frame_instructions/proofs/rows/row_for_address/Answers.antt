use Rattle.std.proofs.Common.{Ok, Some, None, cond, sym, ap, ◌∙◌}
use Rattle.std.proofs.lemmas.Result.{err_from_is_err_and}
use Rattle.dwarf_frame_instructions.specs.ProgramRows.{program_of, rows_left, rows_state}
use Rattle.dwarf_frame_instructions.specs.Programs.{row_among, rows_after_cie}
use Rattle.dwarf_frame_instructions.proofs.Execution.{found_here, found_later, found_nowhere, found_refused}
use Rattle.dwarf_frame_instructions.proofs.rows.row_for_address.Goals as goal

pub returns-in_err-rows : goal.returns-in_err-rows
returns-in_err-rows g c =
    let p = err_from_is_err_and c.from_residual.result c.from_residual.ensures.1 in
    rw (p.1, p.2) (record {
      row = λ told. ap (λ effects. row_among c.args.address (rows_after_cie g.S.UnwindContextStorage.limits (program_of c.args.program) effects)) (c.in_err-rows.ensures.refused told);
      memory = c.in_err-rows.ensures.memory;
    })

pub loop-rows-init : goal.loop-rows-init
loop-rows-init g c = ap (row_among c.args.address) c.in_ok-rows.ensures.rows

pub returns-in_err-advance : goal.returns-in_err-advance
returns-in_err-advance g c =
    let left = rows_left g.R.Reader.stretch g.R.Offset.ReaderOffset.limit g.R.Offset.ReaderOffset.value g.S-Stack-ArrayLike.items g.S.UnwindContextStorage.limits c.loop-rows.rows in
    let p = err_from_is_err_and c.from_residual-in_err-advance.result c.from_residual-in_err-advance.ensures.1 in
    rw (p.1, p.2) (record {
      row = λ told. sym c.loop-rows.invariant ∙ found_refused c.args.address left c.in_err-advance.field-0.0 (c.in_err-advance.ensures.row.refused told);
      memory = c.in_err-advance.ensures.memory;
    })

pub returns-then-is_at : goal.returns-then-is_at
returns-then-is_at g c =
    let left = rows_left g.R.Reader.stretch g.R.Offset.ReaderOffset.limit g.R.Offset.ReaderOffset.value g.S-Stack-ArrayLike.items g.S.UnwindContextStorage.limits c.loop-rows.rows in
    let row = (rows_state g.R.Offset.ReaderOffset.value g.S-Stack-ArrayLike.items c.advance.new.self).row in
    let given = c.in_ok-advance.ensures.row.given ∙ c.if-branch.true in
    record {
      row = sym c.loop-rows.invariant
          ∙ found_here c.args.address left row (c.in_ok-advance.ensures.row.first ∙ ap (λ b. Ok (cond b (Some row) None)) given) (sym c.is_at.ensures ∙ c.if-is_at.true)
          ∙ ap (λ r. Ok r) (sym c.into_row.ensures);
      memory = λ _. tt;
    }

pub loop-rows-preserved : goal.loop-rows-preserved
loop-rows-preserved g c =
    let left = rows_left g.R.Reader.stretch g.R.Offset.ReaderOffset.limit g.R.Offset.ReaderOffset.value g.S-Stack-ArrayLike.items g.S.UnwindContextStorage.limits c.loop-rows.rows in
    let row = (rows_state g.R.Offset.ReaderOffset.value g.S-Stack-ArrayLike.items c.advance.new.self).row in
    let given = c.in_ok-advance.ensures.row.given ∙ c.if-branch.true in
    ap (row_among c.args.address) c.in_ok-advance.ensures.row.left
    ∙ sym (found_later c.args.address left row (c.in_ok-advance.ensures.row.first ∙ ap (λ b. Ok (cond b (Some row) None)) given) (sym c.is_at.ensures ∙ c.if-is_at.false))
    ∙ c.loop-rows.invariant

pub returns : goal.returns
returns g c =
    let left = rows_left g.R.Reader.stretch g.R.Offset.ReaderOffset.limit g.R.Offset.ReaderOffset.value g.S-Stack-ArrayLike.items g.S.UnwindContextStorage.limits c.loop-rows.rows in
    let row = (rows_state g.R.Offset.ReaderOffset.value g.S-Stack-ArrayLike.items c.advance.new.self).row in
    let given = c.in_ok-advance.ensures.row.given ∙ c.if-branch.false in
    record {
      row = λ told. sym c.loop-rows.invariant
          ∙ found_nowhere c.args.address left (c.in_ok-advance.ensures.row.first ∙ ap (λ b. Ok (cond b (Some row) None)) given);
      memory = λ _ h. cc;
    }
