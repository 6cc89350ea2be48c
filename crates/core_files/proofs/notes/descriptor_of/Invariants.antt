use Rattle.std.proofs.Common.{◌≡◌, drop}
use Rattle.core_files.specs.NoteViews.{notes_seen}
use Rattle.core_files.specs.Notes.{descriptor_of}
use Rattle.core_files.proofs.notes.descriptor_of.Given as goal

abbrev pub invariant-loop-number : goal.invariant-loop-number
invariant-loop-number l = descriptor_of l.kind (notes_seen l.notes) ≡ descriptor_of l.kind (drop l.number (notes_seen l.notes))
