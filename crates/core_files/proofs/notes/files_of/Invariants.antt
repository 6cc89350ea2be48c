use Rattle.std.proofs.Common.{◌≡◌, drop}
use Rattle.core_files.specs.NoteViews.{notes_seen}
use Rattle.core_files.specs.Notes.{files_of}
use Rattle.core_files.proofs.notes.files_of.Given as goal

abbrev pub invariant-loop-number : goal.invariant-loop-number
invariant-loop-number l = files_of 0 (notes_seen l.notes) ≡ files_of l.number (drop l.number (notes_seen l.notes))
