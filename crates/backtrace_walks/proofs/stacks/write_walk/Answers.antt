use Rattle.std.proofs.Common.{ℕ, ◌+◌, List, sym, subst}
use Rattle.backtrace_json.specs.Forms.{end_part}
use Rattle.backtrace_text.specs.declared.ends.WalkEnd.TheVariants.{LimitReached}
use Rattle.backtrace_walks.specs.CourseViews.{course_of}
use Rattle.json_program.proofs.Laws.{not_failed, written_none}
use Rattle.json_program.specs.Stream.{IsWritten}
use Rattle.backtrace_walks.specs.ProcessViews.{process_seen, walked_text}
use Rattle.backtrace_walks.specs.StackTexts.{walk_text}
use Rattle.backtrace_walks.proofs.ProcessWalks.{begins_at, end_next, frame_next, limit_next, text_left}
use Rattle.backtrace_walks.proofs.Writes.{fails_in, writes_last, writes_more}
use Rattle.backtrace_walks.proofs.stacks.write_walk.Goals as goal

pub loop-number-init : goal.loop-number-init
loop-number-init g c =
    let stacks = g.A.ThreadArch.stacks in
    let process = c.args.process.now in
    let options = c.args.options.now in
    let start = c.args.start.now in
    let old = g.W.Sink.contents c.args.sink.now in
    let all = walk_text stacks (process_seen process) options start in
    record {
      failed = c.requires.sink;
      session = c.requires.session;
      stands = subst (λ (t : List ℕ). IsWritten old old t all) (sym (begins_at stacks process options c.course_from-course.result start c.course_from-course.ensures)) (written_none old all);
    }

pub returns-in_err-write_walked-in-Frame-clause-text : goal.returns-in_err-write_walked-in-Frame-clause-text
returns-in_err-write_walked-in-Frame-clause-text g c =
    let stacks = g.A.ThreadArch.stacks in
    let process = c.args.process.now in
    let options = c.args.options.now in
    let l = c.loop-number in
    let frame = c.in-Frame.frame in
    let moved = c.next_in in
    fails_in c.from_residual.result (g.W.Sink.contents c.args.sink.now) (g.W.Sink.contents l.sink) (g.W.Sink.contents c.write_walked.new.sink)
    (text_left stacks process options l.number (course_of l.course)) (walked_text stacks process options l.number frame)
    (text_left stacks process options (l.number + 1) (course_of moved.new.course)) (walk_text stacks (process_seen process) options c.args.start.now) c.from_residual.ensures.0 l.invariant.stands
    (frame_next stacks process options l.number l.course moved.new.course moved.result frame c.loop-number-test.true c.in-Frame.is moved.ensures.next)
    c.in_err-write_walked-in-Frame.ensures.text.prefix

pub returns-in-End-clause-text : goal.returns-in-End-clause-text
returns-in-End-clause-text g c =
    let stacks = g.A.ThreadArch.stacks in
    let process = c.args.process.now in
    let options = c.args.options.now in
    let l = c.loop-number in
    let moved = c.next_in in
    writes_last c.write_end_part.result (g.W.Sink.contents c.args.sink.now) (g.W.Sink.contents l.sink) (g.W.Sink.contents c.write_end_part.new.sink)
    (text_left stacks process options l.number (course_of l.course)) (end_part options.form c.in-End.end) (walk_text stacks (process_seen process) options c.args.start.now) l.invariant.stands
    (end_next stacks process options l.number l.course moved.new.course moved.result c.in-End.end c.loop-number-test.true c.in-End.is moved.ensures.next) c.write_end_part.ensures.text

pub loop-number-preserved : goal.loop-number-preserved
loop-number-preserved g c =
    let stacks = g.A.ThreadArch.stacks in
    let process = c.args.process.now in
    let options = c.args.options.now in
    let l = c.loop-number in
    let frame = c.in-Frame.frame in
    let moved = c.next_in in
    record {
      failed = not_failed (g.W.Sink.has_failed c.write_walked.new.sink) c.in_ok-write_walked-in-Frame.ensures.errors.write;
      session = moved.ensures.session;
      stands = writes_more (g.W.Sink.contents c.args.sink.now) (g.W.Sink.contents l.sink) (g.W.Sink.contents c.write_walked.new.sink)
          (text_left stacks process options l.number (course_of l.course)) (walked_text stacks process options l.number frame)
          (text_left stacks process options (l.number + 1) (course_of moved.new.course)) (walk_text stacks (process_seen process) options c.args.start.now) l.invariant.stands
          (frame_next stacks process options l.number l.course moved.new.course moved.result frame c.loop-number-test.true c.in-Frame.is moved.ensures.next)
          c.in_ok-write_walked-in-Frame.ensures.text.whole;
    }

pub returns-clause-text : goal.returns-clause-text
returns-clause-text g c =
    let stacks = g.A.ThreadArch.stacks in
    let process = c.args.process.now in
    let options = c.args.options.now in
    let l = c.loop-number in
    writes_last c.write_end_part-2.result (g.W.Sink.contents c.args.sink.now) (g.W.Sink.contents l.sink) (g.W.Sink.contents c.write_end_part-2.new.sink)
    (text_left stacks process options l.number (course_of l.course)) (end_part options.form LimitReached) (walk_text stacks (process_seen process) options c.args.start.now) l.invariant.stands
    (limit_next stacks process options l.number l.course c.loop-number-test.false) c.write_end_part-2.ensures.text
