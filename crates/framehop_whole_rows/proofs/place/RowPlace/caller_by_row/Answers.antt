use Rattle.std.proofs.Common.{Ok, ap, sym, ◌∙◌}
use Rattle.framehop_registers.proofs.Laws.{over_both}
use Rattle.framehop_whole_rows.specs.Callers.{row_frame}
use Rattle.framehop_whole_rows.proofs.CallerRegisters.{is-caller}
use Rattle.framehop_whole_rows.proofs.place.RowPlace.caller_by_row.Goals as goal

pub returns-in-Ok-Some-clause-caller : goal.returns-in-Ok-Some-clause-caller
returns-in-Ok-Some-clause-caller g c =
    let arm = c.in-Ok-Some in
    over_both arm.ensures.value c.registers_after-registers.ensures.registers (λ words found are.
    is-caller (row_frame c.args.self.now words) arm.to c.registers_after-registers.result (sym (ap (λ o. Ok o) arm.field-0-is) ∙ found) are)
