use Rattle.std.proofs.Common.{◌≡◌, drop}
use Rattle.core_files.specs.NoteViews.{notes_seen}
use Rattle.core_files.specs.Notes.{threads_of}
use Rattle.core_files.proofs.Growing.{after}
use Rattle.core_files.proofs.notes.threads_of.Given as goal

abbrev pub invariant-loop-number : goal.invariant-loop-number
invariant-loop-number l = threads_of l.machine 0 (notes_seen l.notes) ≡ after l.threads.items (threads_of l.machine l.number (drop l.number (notes_seen l.notes)))
