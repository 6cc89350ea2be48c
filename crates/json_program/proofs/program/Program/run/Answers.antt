use Rattle.std.proofs.Common.{◌≡◌, ◌+◌, ◌∙◌, ap, subst, take}
use Rattle.std.proofs.lemmas.Result.{IfOk-weaker}
use Rattle.std.specs.Prelude.{IfSome}
use Rattle.json_program.specs.Stream.{WritesText}
use Rattle.json_program.specs.declared.transfer.TheConstants.{DOCUMENT_LIMIT}
use Rattle.json_program.proofs.Laws.{writes_nothing}
use Rattle.json_program.proofs.Runs.{if_some_always, if_some_map, part_says}
use Rattle.json_program.proofs.program.Program.run.Goals as goal

pub returns-clause-text : goal.returns-clause-text
returns-clause-text g c =
    let old = g.W.Sink.contents c.args.writer.now in
    let new = g.W.Sink.contents c.answer.new.writer in
    if_some_map (g.R.Source.remaining c.args.reader.now) (λ all. c.in_ok-document.document.items ≡ take (DOCUMENT_LIMIT + 1) all)
    (λ all. WritesText c.answer.result old new (g.Self.Program.text_of all))
    (λ all read. subst (WritesText c.answer.result old new)
    (ap g.Self.Program.text_of (c.as_slice.ensures.value ∙ read) ∙ part_says g.Self.Program.text_of (λ one other h k. (g.met.Self.Program.too_long one other h k).0) all)
    c.answer.ensures.text)
    c.in_ok-document.ensures.document.prefix

pub returns-clause-ending : goal.returns-clause-ending
returns-clause-ending g c =
    IfOk-weaker c.answer.result (λ ending. ending ≡ g.Self.Program.ending_of c.as_slice.result.now) (λ ending. IfSome (g.R.Source.remaining c.args.reader.now) (λ document. ending ≡ g.Self.Program.ending_of document))
    (λ ending is. if_some_map (g.R.Source.remaining c.args.reader.now) (λ all. c.in_ok-document.document.items ≡ take (DOCUMENT_LIMIT + 1) all) (λ all. ending ≡ g.Self.Program.ending_of all)
    (λ all read. is ∙ ap g.Self.Program.ending_of (c.as_slice.ensures.value ∙ read) ∙ part_says g.Self.Program.ending_of (λ one other h k. (g.met.Self.Program.too_long one other h k).1) all) c.in_ok-document.ensures.document.prefix)
    c.answer.ensures.ending

pub returns-in_err-document-clause-text : goal.returns-in_err-document-clause-text
returns-in_err-document-clause-text g c =
    if_some_always (g.R.Source.remaining c.args.reader.now) _
    (λ document. writes_nothing c.from_residual.result (g.W.Sink.contents c.args.writer.now) (g.Self.Program.text_of document) c.from_residual.ensures.0)
