use Rattle.std.proofs.Common.{[], sym, ap, subst, ◌∙◌, List}
use Rattle.std.specs.Option.{option_copied}
use Rattle.std.proofs.lemmas.List.{append-nil}
use Rattle.elf_files.specs.Notes.{NoteParts}
use Rattle.core_files.specs.CoreFiles.{notes_in}
use Rattle.core_files.specs.NoteViews.{notes_seen}
use Rattle.core_files.specs.Refusals.{CoreResult, Appends, by_elf}
use Rattle.core_files.specs.SegmentViews.{noted_by}
use Rattle.core_files.proofs.SegmentLaws.{segment-gives, noted-other, noted-here}
use Rattle.core_files.proofs.segments.push_notes.Goals as goal

pub returns-then-not-is_note : goal.returns-then-not-is_note
returns-then-not-is_note c =
    let elf = c.args.elf.now in
    let read = noted_by (option_copied c.args.parts) elf.bytes.now c.args.index in (
      [],
      ap by_elf (segment-gives (notes_in read) elf.bytes.now elf.header c.args.index c.in_ok-segment.segment c.in_ok-segment.ensures ∙ noted-other read c.in_ok-segment.segment (sym c.is_note.ensures ∙ c.if-not-is_note.true)),
      sym (append-nil (notes_seen c.args.all.now.items)),
    )

pub returns : goal.returns
returns c =
    let elf = c.args.elf.now in
    let read = noted_by (option_copied c.args.parts) elf.bytes.now c.args.index in
    subst (λ (said : CoreResult (List NoteParts)). Appends (notes_seen c.args.all.now.items) (notes_seen c.push_all.new.notes.items) c.push_all.result said)
    (sym (ap by_elf (segment-gives (notes_in read) elf.bytes.now elf.header c.args.index c.in_ok-segment.segment c.in_ok-segment.ensures
    ∙ noted-here read c.in_ok-segment.segment c.in_ok-bytes.bytes.now c.new_at.result (sym c.is_note.ensures ∙ c.if-not-is_note.false) c.in_ok-bytes.ensures.ok c.new_at.ensures)))
    c.push_all.ensures
