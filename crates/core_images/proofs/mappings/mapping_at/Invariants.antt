use Rattle.std.proofs.Common.{◌≡◌, drop}
use Rattle.core_files.specs.NoteViews.{mappings_of}
use Rattle.core_images.specs.Images.{mapping_at}
use Rattle.core_images.proofs.mappings.mapping_at.Given as goal

abbrev pub invariant-loop-mapping : goal.invariant-loop-mapping
invariant-loop-mapping l = mapping_at (mappings_of (drop l.mapping-index l.mappings)) l.offset ≡ mapping_at (mappings_of l.mappings) l.offset
