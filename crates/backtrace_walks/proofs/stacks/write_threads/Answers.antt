use Rattle.json_program.proofs.Laws.{written_none}
use Rattle.backtrace_walks.specs.ProcessViews.{process_seen}
use Rattle.backtrace_walks.specs.StackTexts.{threads_text}
use Rattle.backtrace_walks.proofs.ThreadLaws.{fails_at, goes_on_at}
use Rattle.backtrace_walks.proofs.Writes.{not_failed_with}
use Rattle.backtrace_walks.proofs.stacks.write_threads.Goals as goal

pub loop-thread-init : goal.loop-thread-init
loop-thread-init g c = record {
  failed = c.requires.sink;
  session = c.requires.session;
  stands = written_none (g.W.Sink.contents c.args.sink.now) (threads_text g.A.ThreadArch.stacks (process_seen c.args.process.now) c.args.options.now c.args.threads.now);
}

pub returns-in_err-later-clause-text : goal.returns-in_err-later-clause-text
returns-in_err-later-clause-text g c =
    let l = c.loop-thread in
    fails_at g.A.ThreadArch.stacks (process_seen c.args.process.now) c.args.options.now c.from_residual.result
    (g.W.Sink.contents c.args.sink.now) (g.W.Sink.contents l.sink) (g.W.Sink.contents c.write_chosen.new.sink) l.later c.args.threads.now l.thread-index _
    c.from_residual.ensures.0 c.loop-thread-test.true l.invariant.stands c.in_err-later.ensures.text.prefix

pub loop-thread-preserved : goal.loop-thread-preserved
loop-thread-preserved g c =
    let l = c.loop-thread in
    record {
      failed = not_failed_with _ (g.W.Sink.has_failed c.write_chosen.new.sink) c.in_ok-later.ensures.errors.write;
      session = c.write_chosen.ensures.session;
      stands = goes_on_at g.A.ThreadArch.stacks (process_seen c.args.process.now) c.args.options.now
          (g.W.Sink.contents c.args.sink.now) (g.W.Sink.contents l.sink) (g.W.Sink.contents c.write_chosen.new.sink) l.later _ c.args.threads.now l.thread-index _
          c.loop-thread-test.true c.in_ok-later.ensures.later l.invariant.stands c.in_ok-later.ensures.text.whole;
    }
