use Rattle.std.proofs.Common.{arith, ap, ◌∙◌, ℕ, List}
use Rattle.std.specs.Option.{option_copied}
use Rattle.std.proofs.lemmas.Result.{err_from_is_err_and}
use Rattle.elf_files.specs.Bytes.{ElfResult}
use Rattle.elf_files.specs.Notes.{NoteParts}
use Rattle.core_files.specs.CoreFiles.{in_segment, notes_in, core_notes}
use Rattle.core_files.specs.NoteViews.{notes_seen}
use Rattle.core_files.specs.Refusals.{by_elf}
use Rattle.core_files.specs.SegmentViews.{noted_by}
use Rattle.core_files.proofs.Growing.{after, after-end, grown, failed}
use Rattle.core_files.proofs.SegmentLaws.{gathered, gather-end}
use Rattle.core_files.proofs.segments.core_notes.Goals as goal

pub loop-index-preserved : goal.loop-index-preserved
loop-index-preserved c =
    let elf = c.args.elf.now in
    let read = noted_by (option_copied c.args.parts) elf.bytes.now in
    let give : ℕ → ElfResult (List NoteParts) = λ index. in_segment (notes_in (read index)) elf.bytes.now elf.header index in
    let is = gathered give (by_elf (core_notes read elf.bytes.now elf.header)) (notes_seen c.loop-index.notes.items) c.loop-index.index elf.header.segment_count (omega arith) c.loop-index.invariant in
    grown _ _ _ _ is _ c.in_ok-push_notes.ensures

pub returns-in_err-push_notes : goal.returns-in_err-push_notes
returns-in_err-push_notes c =
    let elf = c.args.elf.now in
    let read = noted_by (option_copied c.args.parts) elf.bytes.now in
    let give : ℕ → ElfResult (List NoteParts) = λ index. in_segment (notes_in (read index)) elf.bytes.now elf.header index in
    let is = gathered give (by_elf (core_notes read elf.bytes.now elf.header)) (notes_seen c.loop-index.notes.items) c.loop-index.index elf.header.segment_count (omega arith) c.loop-index.invariant in
    let given = err_from_is_err_and c.from_residual.result c.from_residual.ensures.1 in
    rw (given.1, given.2) (failed _ _ _ _ is _ c.in_err-push_notes.ensures)

pub returns : goal.returns
returns c =
    let elf = c.args.elf.now in
    let read = noted_by (option_copied c.args.parts) elf.bytes.now in
    let give : ℕ → ElfResult (List NoteParts) = λ index. in_segment (notes_in (read index)) elf.bytes.now elf.header index in
    after-end (by_elf (core_notes read elf.bytes.now elf.header)) (notes_seen c.loop-index.notes.items)
    (c.loop-index.invariant ∙ ap (λ (left : ElfResult (List NoteParts)). after (notes_seen c.loop-index.notes.items) (by_elf left)) (gather-end give c.loop-index.index _ (omega arith)))
