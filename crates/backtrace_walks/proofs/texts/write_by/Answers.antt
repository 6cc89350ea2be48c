use Rattle.std.proofs.Common.{List, subst}
use Rattle.backtrace_files.specs.FileViews.{files_seen}
use Rattle.core_files.specs.CoreViews.{contents_of}
use Rattle.core_files.specs.declared.thread.Thread.{Thread}
use Rattle.json_program.proofs.Laws.{writes_nothing}
use Rattle.json_program.specs.Stream.{WritesText}
use Rattle.backtrace_walks.specs.Backtraces.{Process, process_with}
use Rattle.backtrace_walks.specs.StackTexts.{threads_text}
use Rattle.backtrace_walks.proofs.texts.write_by.Goals as goal

pub returns-clause-text : goal.returns-clause-text
returns-clause-text g c =
    let stacks = g.A.ThreadArch.stacks in
    let options = c.args.options.now in
    let old = g.W.Sink.contents c.args.sink.now in
    let new = g.W.Sink.contents c.write_threads.new.sink in
    subst (λ (ts : List Thread). WritesText c.write_threads.result old new (threads_text stacks (process_with (contents_of c.args.core.now) (files_seen c.args.files.now)) options ts))
    c.threads.ensures
    (subst (λ (p : Process). WritesText c.write_threads.result old new (threads_text stacks p options c.threads.result.now)) c.process_in-process.ensures.process c.write_threads.ensures.text)

pub returns-in_err-session-clause-text : goal.returns-in_err-session-clause-text
returns-in_err-session-clause-text g c = writes_nothing c.from_residual-in_err-session.result _ _ c.from_residual-in_err-session.ensures.0

pub returns-in_err-ranges-clause-text : goal.returns-in_err-ranges-clause-text
returns-in_err-ranges-clause-text g c = writes_nothing c.from_residual.result _ _ c.from_residual.ensures.0
