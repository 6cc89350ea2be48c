use Rattle.std.proofs.Common.{◌≡◌, drop}
use Rattle.core_files.specs.NoteViews.{mappings_of}
use Rattle.backtrace_files.specs.BuildIds.{first_mapping}
use Rattle.backtrace_files.proofs.build_ids.first_mapping.Given as goal

abbrev pub invariant-loop-mapping : goal.invariant-loop-mapping
invariant-loop-mapping l = first_mapping (mappings_of (drop l.mapping-index l.mappings)) l.name ≡ first_mapping (mappings_of l.mappings) l.name
