use Rattle.std.proofs.Common.{◌≡◌, ◌++◌, List, length}
use Rattle.elf_files.specs.Notes.{NoteParts}
use Rattle.core_files.specs.CoreFiles.{all_ok}
use Rattle.core_files.specs.NoteViews.{notes_seen}
use Rattle.core_files.specs.Refusals.{by_elf}
use Rattle.core_files.proofs.Growing.{after}
use Rattle.core_files.proofs.segments.push_all.Given as goal

abbrev pub invariant-notes : goal.invariant-notes
invariant-notes l = record {
  pushed : List NoteParts;
  grown : notes_seen l.notes.items ≡ notes_seen l.fn.notes.items ++ pushed;
  whole : by_elf (all_ok l.fn.all) ≡ after pushed (by_elf (all_ok l.left));
}

abbrev pub decreases-notes : goal.decreases-notes
decreases-notes l = length l.left
