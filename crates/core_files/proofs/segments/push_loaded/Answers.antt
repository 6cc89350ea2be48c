use Rattle.std.proofs.Common.{[], sym, ap, ◌∙◌}
use Rattle.std.specs.Option.{option_copied}
use Rattle.std.proofs.lemmas.List.{append-nil, map-append}
use Rattle.core_files.specs.CoreFiles.{loaded_in}
use Rattle.core_files.specs.RangeViews.{range_seen, ranges_seen}
use Rattle.core_files.specs.Refusals.{by_elf}
use Rattle.core_files.specs.SegmentViews.{loaded_by}
use Rattle.core_files.proofs.SegmentLaws.{segment-gives, loaded-other, loaded-here}
use Rattle.core_files.proofs.segments.push_loaded.Goals as goal

pub returns-then-not-is_loaded : goal.returns-then-not-is_loaded
returns-then-not-is_loaded c =
    let elf = c.args.elf.now in
    let read = loaded_by (option_copied c.args.parts) elf.bytes.now c.args.index in (
      [],
      ap by_elf (segment-gives (loaded_in read) elf.bytes.now elf.header c.args.index c.in_ok-segment.segment c.in_ok-segment.ensures ∙ loaded-other read c.in_ok-segment.segment (sym c.is_loaded.ensures ∙ c.if-not-is_loaded.true)),
      sym (append-nil (ranges_seen c.args.all.now.items)),
    )

pub returns : goal.returns
returns c =
    let elf = c.args.elf.now in
    let read = loaded_by (option_copied c.args.parts) elf.bytes.now c.args.index in (
      _,
      ap by_elf (segment-gives (loaded_in read) elf.bytes.now elf.header c.args.index c.in_ok-segment.segment c.in_ok-segment.ensures
          ∙ loaded-here read c.in_ok-segment.segment _ (sym c.is_loaded.ensures ∙ c.if-not-is_loaded.false) c.in_ok-zeros.ensures.ok),
      rw (← c.lost_bytes.ensures, ← c.may_be_executed.ensures) (ap ranges_seen c.in_ok-push.ensures.ok ∙ map-append range_seen c.args.all.now.items _),
    )
