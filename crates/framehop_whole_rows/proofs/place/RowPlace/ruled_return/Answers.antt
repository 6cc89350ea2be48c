use Rattle.std.proofs.Common.{◌∙◌}
use Rattle.framehop_registers.proofs.Laws.{over_weaker}
use Rattle.framehop_whole_rows.specs.Callers.{row_frame}
use Rattle.framehop_whole_rows.proofs.CallerRegisters.{stated}
use Rattle.framehop_whole_rows.proofs.place.RowPlace.ruled_return.Goals as goal

pub returns-in_default-clause-value : goal.returns-in_default-clause-value
returns-in_default-clause-value g c =
    over_weaker c.stated_return.ensures.value (λ words is.
    is ∙ stated g.R.Offset.ReaderOffset.value (row_frame c.args.self.now words) c.args.cfa c.args.rule c.in_default.not-Undefined)
