use Rattle.std.proofs.Common.{arith, drop, ap, ◌∙◌, List}
use Rattle.std.proofs.lemmas.Result.{err_from_is_err_and}
use Rattle.core_files.specs.declared.thread.Thread.{Thread}
use Rattle.core_files.specs.NoteViews.{notes_seen}
use Rattle.core_files.specs.Notes.{threads_of}
use Rattle.core_files.specs.Refusals.{CoreResult}
use Rattle.core_files.proofs.Growing.{after, after-none, after-end, grown, failed}
use Rattle.core_files.proofs.NoteLaws.{threads-step, threads-end, notes-end}
use Rattle.core_files.proofs.notes.threads_of.Goals as goal

pub loop-number-init : goal.loop-number-init
loop-number-init c = rw c.new-threads.ensures.items (after-none (threads_of c.args.machine 0 (notes_seen c.args.notes.now)))

pub loop-number-preserved : goal.loop-number-preserved
loop-number-preserved c =
    let is = c.loop-number.invariant ∙ ap (λ (left : CoreResult (List Thread)). after c.loop-number.threads.items left) (threads-step c.args.notes.now c.loop-number.number _ (omega arith) c.args.machine) in
    grown _ _ _ _ is _ c.in_ok-push_thread.ensures

pub returns-in_err-push_thread : goal.returns-in_err-push_thread
returns-in_err-push_thread c =
    let is = c.loop-number.invariant ∙ ap (λ (left : CoreResult (List Thread)). after c.loop-number.threads.items left) (threads-step c.args.notes.now c.loop-number.number _ (omega arith) c.args.machine) in
    let given = err_from_is_err_and c.from_residual.result c.from_residual.ensures.1 in
    rw (given.1, given.2) (failed _ _ _ _ is _ c.in_err-push_thread.ensures)

pub returns : goal.returns
returns c =
    after-end (threads_of c.args.machine 0 (notes_seen c.args.notes.now)) c.loop-number.threads.items
    (c.loop-number.invariant ∙ ap (λ (left : CoreResult (List Thread)). after c.loop-number.threads.items left)
    (threads-end c.loop-number.number (drop c.loop-number.number (notes_seen c.args.notes.now)) c.args.machine (notes-end c.args.notes.now c.loop-number.number (omega arith))))
