use Rattle.std.proofs.Common.{◌≡◌, ◌-◌}
use Rattle.elf_files.specs.BuildIds.{segment_build_id}
use Rattle.elf_files.specs.SegmentViews.{segment_in, segments_in}
use Rattle.elf_files.specs.Tables.{entries, first_found}
use Rattle.elf_files.proofs.file.ElfFile.build_id_by_segments.Given as goal

abbrev pub invariant-loop-index : goal.invariant-loop-index
invariant-loop-index l =
    first_found (segment_build_id l.self.bytes.now) (entries (segment_in l.table) l.index (l.table.count - l.index))
    ≡ first_found (segment_build_id l.self.bytes.now) (segments_in l.table)
