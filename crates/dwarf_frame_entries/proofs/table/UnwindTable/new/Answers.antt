use Rattle.std.proofs.Common.{sym, ap, ◌∙◌}
use Rattle.std.proofs.lemmas.Result.{err_from_is_err_and}
use Rattle.dwarf_frame_instructions.specs.Programs.{effects_of_cie}
use Rattle.dwarf_frame_entries.proofs.table.UnwindTable.new.Goals as goal

pub returns-in_err-rows : goal.returns-in_err-rows
returns-in_err-rows g c =
    let p = err_from_is_err_and c.from_residual.result c.from_residual.ensures.1 in
    rw (p.1, p.2) (record {
      left = tt;
      none_given = tt;
      started = tt;
      error = λ told. ap (effects_of_cie g.S.UnwindContextStorage.limits) (sym c.program.ensures) ∙ c.in_err-rows.ensures.refused told;
      memory = c.in_err-rows.ensures.memory;
    })
