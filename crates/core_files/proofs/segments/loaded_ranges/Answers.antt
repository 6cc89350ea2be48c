use Rattle.std.proofs.Common.{arith, ap, ◌∙◌, ℕ, List}
use Rattle.std.specs.Option.{option_copied}
use Rattle.std.proofs.lemmas.Result.{err_from_is_err_and}
use Rattle.elf_files.specs.Bytes.{ElfResult}
use Rattle.core_files.specs.CoreFiles.{in_segment, loaded_in, loaded_ranges}
use Rattle.core_files.specs.Ranges.{KnownRange}
use Rattle.core_files.specs.RangeViews.{ranges_seen}
use Rattle.core_files.specs.Refusals.{by_elf}
use Rattle.core_files.specs.SegmentViews.{loaded_by}
use Rattle.core_files.proofs.Growing.{after, after-end, grown, failed}
use Rattle.core_files.proofs.SegmentLaws.{gathered, gather-end}
use Rattle.core_files.proofs.segments.loaded_ranges.Goals as goal

pub loop-index-preserved : goal.loop-index-preserved
loop-index-preserved c =
    let elf = c.args.elf.now in
    let read = loaded_by (option_copied c.args.parts) elf.bytes.now in
    let give : ℕ → ElfResult (List KnownRange) = λ index. in_segment (loaded_in (read index)) elf.bytes.now elf.header index in
    let is = gathered give (by_elf (loaded_ranges read elf.bytes.now elf.header)) (ranges_seen c.loop-index.ranges.items) c.loop-index.index elf.header.segment_count (omega arith) c.loop-index.invariant in
    grown _ _ _ _ is _ c.in_ok-push_loaded.ensures

pub returns-in_err-push_loaded : goal.returns-in_err-push_loaded
returns-in_err-push_loaded c =
    let elf = c.args.elf.now in
    let read = loaded_by (option_copied c.args.parts) elf.bytes.now in
    let give : ℕ → ElfResult (List KnownRange) = λ index. in_segment (loaded_in (read index)) elf.bytes.now elf.header index in
    let is = gathered give (by_elf (loaded_ranges read elf.bytes.now elf.header)) (ranges_seen c.loop-index.ranges.items) c.loop-index.index elf.header.segment_count (omega arith) c.loop-index.invariant in
    let given = err_from_is_err_and c.from_residual.result c.from_residual.ensures.1 in
    rw (given.1, given.2) (failed _ _ _ _ is _ c.in_err-push_loaded.ensures)

pub returns : goal.returns
returns c =
    let elf = c.args.elf.now in
    let read = loaded_by (option_copied c.args.parts) elf.bytes.now in
    let give : ℕ → ElfResult (List KnownRange) = λ index. in_segment (loaded_in (read index)) elf.bytes.now elf.header index in
    after-end (by_elf (loaded_ranges read elf.bytes.now elf.header)) (ranges_seen c.loop-index.ranges.items)
    (c.loop-index.invariant ∙ ap (λ (left : ElfResult (List KnownRange)). after (ranges_seen c.loop-index.ranges.items) (by_elf left)) (gather-end give c.loop-index.index _ (omega arith)))
