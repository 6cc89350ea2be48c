use Rattle.std.proofs.Common.{◌≡◌, ◌-◌}
use Rattle.std.specs.Option.{option_copied}
use Rattle.core_files.specs.CoreFiles.{gather, in_segment, loaded_in, loaded_ranges}
use Rattle.core_files.specs.RangeViews.{ranges_seen}
use Rattle.core_files.specs.Refusals.{by_elf}
use Rattle.core_files.specs.SegmentViews.{loaded_by}
use Rattle.core_files.proofs.Growing.{after}
use Rattle.core_files.proofs.segments.loaded_ranges.Given as goal

abbrev pub invariant-loop-index : goal.invariant-loop-index
invariant-loop-index l =
    let read = loaded_by (option_copied l.parts) l.elf.bytes.now in
    by_elf (loaded_ranges read l.elf.bytes.now l.elf.header)
    ≡ after (ranges_seen l.ranges.items)
    (by_elf (gather (λ index. in_segment (loaded_in (read index)) l.elf.bytes.now l.elf.header index) l.index (l.elf.header.segment_count - l.index)))
