use Rattle.std.proofs.Common.{◌≡◌, ℕ, List, [], reverse, sym, ap, subst, ◌∙◌}
use Rattle.std.proofs.lemmas.List.{reverse-reverse}
use Rattle.json_program.proofs.Laws.{fails_after, not_failed, written_none, written_prefix}
use Rattle.json_program.specs.Stream.{IsWritten}
use Rattle.framehop_unwinder.specs.State.{SessionState, empty_state}
use Rattle.framehop_unwinder.specs.History.{HaveHistories}
use Rattle.framehop_unwinder.specs.Progress.{IsAt}
use Rattle.unwind_run_program.specs.Outputs.{IsOutput, beginning}
use Rattle.unwind_run_document.specs.Document.{nothing_made}
use Rattle.unwind_run_document.specs.Made.{made_after}
use Rattle.unwind_run_document.specs.Sound.{AreSound}
use Rattle.unwind_run_document.specs.Tasks.{Task}
use Rattle.unwind_run_document.specs.CommandViews.{tasks_of, task_of}
use Rattle.unwind_run_program.specs.Text.{lines_of, output_of}
use Rattle.unwind_run_program.proofs.Runs.{begun_next, next_task, written_last, written_next}
use Rattle.unwind_run_program.proofs.program.run_commands.Goals as goal

pub loop-command-init : goal.loop-command-init
loop-command-init g c =
    let D = g.row.A-UnwindData.Denot in
    let R = g.row.A-UnwindRule.Denot in
    let m = g.A.ModuleUnwinding.meanings in
    let d = g.A.DocumentModules.data_of in
    let forms = g.A.DocumentModules.forms in
    let begins : c.new-session.result ≡ empty_state c.args.generation = c.new-session.ensures ∙ ap (λ (n : ℕ). empty_state n) c.starting_at.ensures in
    let whole : tasks_of c.args.commands.items ≡ tasks_of (reverse c.reverse.new.self.items) =
    ap tasks_of (sym (reverse-reverse c.args.commands.items) ∙ ap reverse (sym c.reverse.ensures.items)) in
    let at : IsAt (beginning c.args.generation) c.new-session.result = record {
      unwinders = ap (λ (s : SessionState D R). s.unwinders) begins;
      next = ap (λ (s : SessionState D R). s.next) begins;
      histories = subst (λ (s : SessionState D R). HaveHistories [] s.caches) (sym begins) tt;
    } in
    record {
      failed = c.requires.writer;
      sound = (nothing_made, subst (λ (ts : List Task). AreSound nothing_made ts) whole c.requires.sound);
      stands = (
        beginning c.args.generation,
        at,
        subst (λ (ts : List Task). IsWritten (g.W.Sink.contents c.args.writer.now) (g.W.Sink.contents c.args.writer.now) (lines_of m forms d (beginning c.args.generation) ts) (lines_of m forms d (beginning c.args.generation) (tasks_of c.args.commands.items))) whole
            (written_none (g.W.Sink.contents c.args.writer.now) (lines_of m forms d (beginning c.args.generation) (tasks_of c.args.commands.items))),
      );
    }

pub returns-in_err-written-clause-text : goal.returns-in_err-written-clause-text
returns-in_err-written-clause-text g c =
    fails_after c.from_residual.result _ _ _ c.from_residual.ensures.0 (written_prefix _ _ _ _ c.loop-command.invariant.stands.2)

pub returns-in_err-write_all-clause-text : goal.returns-in_err-write_all-clause-text
returns-in_err-write_all-clause-text g c =
    let m = g.A.ModuleUnwinding.meanings in
    let d = g.A.DocumentModules.data_of in
    let forms = g.A.DocumentModules.forms in
    let l = c.loop-command in
    let p = l.invariant.stands.0 in
    let all = lines_of m forms d (beginning c.args.generation) (tasks_of c.args.commands.items) in
    let next = next_task l.commands.items c.pop.new.self.items c.in-Some.command c.in-Some.ensures.items in
    let written = subst (λ (ts : List Task). IsWritten (g.W.Sink.contents c.args.writer.now) (g.W.Sink.contents l.writer) (lines_of m forms d p ts) all) next l.invariant.stands.2 in
    let comes = c.in_ok-written.ensures p l.invariant.stands.1 in
    fails_after c.from_residual-in_err-write_all.result _ _ all c.from_residual-in_err-write_all.ensures.0
    (begun_next m forms d p (task_of c.in-Some.command) (tasks_of (reverse c.pop.new.self.items)) c.perform.new.session (g.W.Sink.contents c.args.writer.now) (g.W.Sink.contents l.writer) (g.W.Sink.contents c.write_all.new.sink) c.as_bytes.result.now all c.in_ok-written.written.is_refused
    (subst (λ (xs : List ℕ). IsOutput (output_of m forms d p (task_of c.in-Some.command)) xs c.in_ok-written.written.is_refused c.perform.new.session) (sym c.as_bytes.ensures.value) comes) written c.in_err-write_all.ensures.text.prefix)

pub returns-then-written-clause-text : goal.returns-then-written-clause-text
returns-then-written-clause-text g c =
    let m = g.A.ModuleUnwinding.meanings in
    let d = g.A.DocumentModules.data_of in
    let forms = g.A.DocumentModules.forms in
    let l = c.loop-command in
    let p = l.invariant.stands.0 in
    let all = lines_of m forms d (beginning c.args.generation) (tasks_of c.args.commands.items) in
    let next = next_task l.commands.items c.pop.new.self.items c.in-Some.command c.in-Some.ensures.items in
    let written = subst (λ (ts : List Task). IsWritten (g.W.Sink.contents c.args.writer.now) (g.W.Sink.contents l.writer) (lines_of m forms d p ts) all) next l.invariant.stands.2 in
    let comes = c.in_ok-written.ensures p l.invariant.stands.1 in
    record {
      whole = written_last m forms d p (task_of c.in-Some.command) (tasks_of (reverse c.pop.new.self.items)) c.perform.new.session (g.W.Sink.contents c.args.writer.now) (g.W.Sink.contents l.writer) (g.W.Sink.contents c.write_all.new.sink) c.as_bytes.result.now all c.in_ok-written.written.is_refused
          (subst (λ (xs : List ℕ). IsOutput (output_of m forms d p (task_of c.in-Some.command)) xs c.in_ok-written.written.is_refused c.perform.new.session) (sym c.as_bytes.ensures.value) comes) c.if-written.true written c.in_ok-write_all.ensures.text.whole;
      prefix = tt;
    }

pub loop-command-preserved : goal.loop-command-preserved
loop-command-preserved g c =
    let m = g.A.ModuleUnwinding.meanings in
    let d = g.A.DocumentModules.data_of in
    let forms = g.A.DocumentModules.forms in
    let l = c.loop-command in
    let p = l.invariant.stands.0 in
    let task = task_of c.in-Some.command in
    let left = tasks_of (reverse c.pop.new.self.items) in
    let all = lines_of m forms d (beginning c.args.generation) (tasks_of c.args.commands.items) in
    let next = next_task l.commands.items c.pop.new.self.items c.in-Some.command c.in-Some.ensures.items in
    let written = subst (λ (ts : List Task). IsWritten (g.W.Sink.contents c.args.writer.now) (g.W.Sink.contents l.writer) (lines_of m forms d p ts) all) next l.invariant.stands.2 in
    let made = l.invariant.sound.0 in
    let sound = subst (λ (ts : List Task). AreSound made ts) next l.invariant.sound.1 in
    let comes = c.in_ok-written.ensures p l.invariant.stands.1 in
    let comes_written = subst (λ (xs : List ℕ). IsOutput (output_of m forms d p task) xs c.in_ok-written.written.is_refused c.perform.new.session) (sym c.as_bytes.ensures.value) comes in
    record {
      failed = not_failed (g.W.Sink.has_failed c.write_all.new.sink) c.in_ok-write_all.ensures.write;
      sound = (made_after made task, sound.1);
      stands = (
        (output_of m forms d p task).model,
        comes_written.model,
        written_next m forms d p task left c.perform.new.session (g.W.Sink.contents c.args.writer.now) (g.W.Sink.contents l.writer) (g.W.Sink.contents c.write_all.new.sink) c.as_bytes.result.now all c.in_ok-written.written.is_refused comes_written c.if-written.false written c.in_ok-write_all.ensures.text.whole,
      );
    }
