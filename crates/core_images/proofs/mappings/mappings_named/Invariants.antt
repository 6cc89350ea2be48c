use Rattle.std.proofs.Common.{◌≡◌, ◌++◌, drop}
use Rattle.core_files.specs.NoteViews.{mappings_of}
use Rattle.core_images.specs.Images.{mappings_named}
use Rattle.core_images.proofs.mappings.mappings_named.Given as goal

-- those so far, and then those that are left
abbrev pub invariant-loop-mapping : goal.invariant-loop-mapping
invariant-loop-mapping l =
    mappings_of l.named.items ++ mappings_named l.name (mappings_of (drop l.mapping-index l.mappings)) ≡ mappings_named l.name (mappings_of l.mappings)
