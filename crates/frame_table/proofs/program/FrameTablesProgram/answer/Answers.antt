use Rattle.frame_table.specs.Text.{text_of}
use Rattle.json_program.proofs.Laws.{writes_nothing}
use Rattle.frame_table.proofs.program.FrameTablesProgram.answer.Goals as goal

pub returns-in_err-line-in-Err-Fault-clause-text : goal.returns-in_err-line-in-Err-Fault-clause-text
returns-in_err-line-in-Err-Fault-clause-text g c =
    writes_nothing c.from_residual-in_err-line-in-Err-Fault.result (g.W.Sink.contents c.args.writer.now) (text_of c.args.document.now) c.from_residual-in_err-line-in-Err-Fault.ensures.0
