use Rattle.std.proofs.Common.{◌≡◌}
use Rattle.core_files.specs.FileViews.{count_left, files_left}
use Rattle.core_files.specs.MappedFiles.{mapped_files}
use Rattle.core_files.specs.NoteViews.{mappings_of}
use Rattle.core_files.proofs.Growing.{after}
use Rattle.core_files.proofs.notes.read_files.Given as goal

abbrev pub invariant-files : goal.invariant-files
invariant-files l = mapped_files l.fn.descriptor ≡ after (mappings_of l.files.items) (files_left l.left)

abbrev pub decreases-files : goal.decreases-files
decreases-files l = count_left l.left
