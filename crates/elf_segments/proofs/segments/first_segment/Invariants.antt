use Rattle.std.proofs.Common.{◌≡◌, ◌-◌, Bool}
use Rattle.std.specs.List.{find}
use Rattle.elf_files.specs.Segments.{all_segments, segment_of}
use Rattle.elf_files.specs.Tables.{entries}
use Rattle.elf_files.specs.declared.segment.Segment.{Segment}
use Rattle.elf_segments.specs.Segments.{Computes}
use Rattle.elf_segments.proofs.segments.first_segment.Given as goal

-- the first among those that are left is the first of all
abbrev pub invariant-loop-index : goal.invariant-loop-index
invariant-loop-index g l =
    (holds : Segment → Bool) → Computes (goal.F-post g l.test) holds
    → find holds (entries (segment_of l.file.bytes.now l.file.header) l.index (l.file.header.segment_count - l.index))
    ≡ find holds (all_segments l.file.bytes.now l.file.header)
