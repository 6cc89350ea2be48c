use Rattle.std.proofs.Common.{subst}
use Rattle.backtrace_json.specs.Forms.{frame_part}
use Rattle.backtrace_text.specs.Frames.{Frame}
use Rattle.json_program.proofs.Laws.{writes_nothing}
use Rattle.json_program.specs.Stream.{WritesText}
use Rattle.backtrace_walks.proofs.stacks.write_walked.Goals as goal

pub returns-in_err-shown-clause-text : goal.returns-in_err-shown-clause-text
returns-in_err-shown-clause-text g c = writes_nothing c.from_residual.result _ _ c.from_residual.ensures.0

pub returns-clause-text : goal.returns-clause-text
returns-clause-text g c =
    subst (λ (f : Frame). WritesText c.write_frame_part.result (g.W.Sink.contents c.args.sink.now) (g.W.Sink.contents c.write_frame_part.new.sink) (frame_part c.args.options.now.form c.args.number f))
    c.in_ok-shown.ensures c.write_frame_part.ensures.text
