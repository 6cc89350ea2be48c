use Rattle.std.proofs.Common.{◌+◌, [], ◌∷◌, drop, sym}
use Rattle.std.proofs.lemmas.List.{append-nil}
use Rattle.elf_files.specs.NoteViews.{note_seen}
use Rattle.core_files.specs.NoteViews.{notes_seen}
use Rattle.core_files.proofs.NoteLaws.{thread-none, thread-some}
use Rattle.core_files.proofs.notes.push_thread.Goals as goal

pub returns-then-not-is_prstatus : goal.returns-then-not-is_prstatus
returns-then-not-is_prstatus c =
    ([], thread-none c.args.machine c.args.number (note_seen c.args.note.now) (drop (c.args.number + 1) (notes_seen c.args.notes.now)) c.if-not-is_prstatus.ensures, sym (append-nil c.args.threads.now.items))

pub returns : goal.returns
returns c = (
  c.in_ok-thread.thread ∷ [],
  thread-some c.args.machine c.args.number (note_seen c.args.note.now) (drop (c.args.number + 1) (notes_seen c.args.notes.now)) c.in_ok-thread.thread c.if-not-is_prstatus.ensures (sym c.in_ok-thread.ensures),
  c.in_ok-push.ensures.ok,
)
