use Rattle.std.proofs.Common.{◌≡◌, drop}
use Rattle.core_files.specs.NoteViews.{mappings_of}
use Rattle.core_images.specs.Images.{are_apart_from}
use Rattle.core_images.proofs.mappings.are_apart.Given as goal

abbrev pub invariant-loop-mapping : goal.invariant-loop-mapping
invariant-loop-mapping l = are_apart_from l.end (mappings_of (drop l.mapping-index l.mappings)) ≡ are_apart_from 0 (mappings_of l.mappings)
