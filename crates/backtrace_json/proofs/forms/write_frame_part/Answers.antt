use Rattle.std.proofs.Common.{ℕ, List, subst, sym, ap, ◌∙◌}
use Rattle.backtrace_json.specs.Forms.{frame_part}
use Rattle.backtrace_json.specs.declared.forms.TextForm.{TextForm}
use Rattle.backtrace_text.specs.FrameViews.{frame_view}
use Rattle.json_program.specs.Stream.{WritesText}
use Rattle.backtrace_json.proofs.forms.write_frame_part.Goals as goal

pub returns-in_ok-text-in-Json-clause-text : goal.returns-in_ok-text-in-Json-clause-text
returns-in_ok-text-in-Json-clause-text g c =
    let form = ap (λ (f : TextForm). frame_part f c.args.number (frame_view c.args.frame.now)) c.in-Json.is in
    subst (λ (t : List ℕ). WritesText c.write_all.result (g.W.Sink.contents c.args.sink.now) (g.W.Sink.contents c.write_all.new.sink) t)
    (c.as_slice.ensures.value ∙ c.in_ok-text-in-Json.ensures ∙ sym form) c.write_all.ensures.text
