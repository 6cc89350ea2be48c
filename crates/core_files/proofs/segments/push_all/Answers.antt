use Rattle.std.proofs.Common.{[], ◌∷◌, ◌++◌, inr}
use Rattle.std.proofs.lemmas.Result.{err_from_is_err_and}
use Rattle.elf_files.specs.NoteViews.{note_seen}
use Rattle.core_files.specs.CoreFiles.{all_ok}
use Rattle.core_files.specs.Refusals.{by_elf}
use Rattle.core_files.proofs.SegmentLaws.{left-step, left-fail, left-end, notes-grown}
use Rattle.core_files.proofs.segments.push_all.Goals as goal

pub returns-in_err-note : goal.returns-in_err-note
returns-in_err-note c =
    let i = c.notes.invariant in
    let given = err_from_is_err_and c.from_residual.result c.from_residual.ensures.1 in
    rw (given.1, given.2) (inr (left-fail (by_elf (all_ok c.args.all)) i.pushed c.notes.left c.next.new.self i.whole c.in_err-note.field-0.0 c.in_err-note.ensures.0))

pub returns-in_default : goal.returns-in_default
returns-in_default c =
    let i = c.notes.invariant in
    let none = rw c.in_default.is at c.in_ok-note.ensures in
    (i.pushed, left-end (by_elf (all_ok c.args.all)) i.pushed c.notes.left c.next.new.self i.whole none.0, i.grown)

pub notes-preserved : goal.notes-preserved
notes-preserved c =
    let i = c.notes.invariant in
    let some = rw c.in-Some.is at c.in_ok-note.ensures in
    record {
      pushed = i.pushed ++ note_seen c.in-Some.note ∷ [];
      grown = notes-grown c.args.notes.now.items c.notes.notes.items c.push.new.list.items i.pushed c.in-Some.note i.grown c.in_ok-push.ensures.ok;
      whole = left-step (by_elf (all_ok c.args.all)) i.pushed c.notes.left c.next.new.self i.whole (note_seen c.in-Some.note) some;
    }
