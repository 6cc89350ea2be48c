use Rattle.std.proofs.Common.{subst, sym}
use Rattle.std.proofs.lemmas.List.{append-nil}
use Rattle.std.specs.Io.KnownBytes.{Appends}
use Rattle.backtrace_headings.specs.Headings.{label_of}
use Rattle.backtrace_json.specs.Forms.{thread_part}
use Rattle.backtrace_text.specs.Threads.{Label}
use Rattle.json_program.proofs.Laws.{written_none}
use Rattle.json_program.specs.Stream.{AppendsPrefix}
use Rattle.backtrace_walks.specs.ProcessViews.{process_seen}
use Rattle.backtrace_walks.specs.StackTexts.{text_at, walk_text}
use Rattle.backtrace_walks.proofs.ThreadLaws.{begins_with}
use Rattle.backtrace_walks.proofs.Writes.{fails_in, writes_last, writes_more}
use Rattle.backtrace_walks.proofs.stacks.write_stack.Goals as goal

pub returns-in_err-write_thread_part-clause-text : goal.returns-in_err-write_thread_part-clause-text
returns-in_err-write_thread_part-clause-text g c =
    let stacks = g.A.ThreadArch.stacks in
    let process = process_seen c.args.process.now in
    let all = text_at stacks process c.args.options.now c.args.later c.args.id c.args.start.now in
    let old = g.W.Sink.contents c.args.sink.now in
    let new = g.W.Sink.contents c.write_thread_part.new.sink in
    fails_in c.from_residual.result old old new all (thread_part c.args.options.now.form c.args.later (label_of process.heading c.args.id)) (walk_text stacks process c.args.options.now c.args.start.now) all
    c.from_residual.ensures.0 (written_none old all) (begins_with stacks process c.args.options.now c.args.later c.args.id c.args.start.now)
    (subst (λ (l : Label). AppendsPrefix old new (thread_part c.args.options.now.form c.args.later l)) c.label_of-label.ensures c.in_err-write_thread_part.ensures.text.prefix)

pub returns-clause-text : goal.returns-clause-text
returns-clause-text g c =
    let stacks = g.A.ThreadArch.stacks in
    let process = process_seen c.args.process.now in
    let all = text_at stacks process c.args.options.now c.args.later c.args.id c.args.start.now in
    let rest = walk_text stacks process c.args.options.now c.args.start.now in
    let old = g.W.Sink.contents c.args.sink.now in
    let mid = g.W.Sink.contents c.write_thread_part.new.sink in
    let line = thread_part c.args.options.now.form c.args.later (label_of process.heading c.args.id) in
    let written = subst (λ (l : Label). Appends old mid (thread_part c.args.options.now.form c.args.later l)) c.label_of-label.ensures c.in_ok-write_thread_part.ensures.text.whole in
    let begun = writes_more old old mid all line rest all (written_none old all) (begins_with stacks process c.args.options.now c.args.later c.args.id c.args.start.now) written in
    writes_last c.write_walk.result old mid (g.W.Sink.contents c.write_walk.new.sink) rest rest all begun (sym (append-nil rest)) c.write_walk.ensures.text
