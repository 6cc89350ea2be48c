use Rattle.std.proofs.Common.{◌≡◌, ◌-◌}
use Rattle.std.specs.Option.{option_copied}
use Rattle.core_files.specs.CoreFiles.{gather, in_segment, notes_in, core_notes}
use Rattle.core_files.specs.NoteViews.{notes_seen}
use Rattle.core_files.specs.Refusals.{by_elf}
use Rattle.core_files.specs.SegmentViews.{noted_by}
use Rattle.core_files.proofs.Growing.{after}
use Rattle.core_files.proofs.segments.core_notes.Given as goal

abbrev pub invariant-loop-index : goal.invariant-loop-index
invariant-loop-index l =
    let read = noted_by (option_copied l.parts) l.elf.bytes.now in
    by_elf (core_notes read l.elf.bytes.now l.elf.header)
    ≡ after (notes_seen l.notes.items)
    (by_elf (gather (λ index. in_segment (notes_in (read index)) l.elf.bytes.now l.elf.header index) l.index (l.elf.header.segment_count - l.index)))
