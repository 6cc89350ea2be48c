use Rattle.std.proofs.Common.{◌≡◌, drop}
use Rattle.core_files.specs.NoteViews.{notes_seen}
use Rattle.core_files.specs.Notes.{masks_of}
use Rattle.core_files.proofs.notes.masks_of.Given as goal

abbrev pub invariant-loop-number : goal.invariant-loop-number
invariant-loop-number l = masks_of l.fn.first (drop l.fn.first (notes_seen l.notes)) ≡ masks_of l.number (drop l.number (notes_seen l.notes))
