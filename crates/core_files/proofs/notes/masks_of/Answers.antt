use Rattle.std.proofs.Common.{arith, sym, drop, ◌∙◌}
use Rattle.core_files.specs.NoteViews.{notes_seen}
use Rattle.core_files.proofs.NoteLaws.{masks-next, masks-here, masks-later, masks-end, notes-end}
use Rattle.core_files.proofs.notes.masks_of.Goals as goal

pub returns-then-is_prstatus : goal.returns-then-is_prstatus
returns-then-is_prstatus c = sym (c.loop-number.invariant ∙ masks-next c.args.notes.now c.loop-number.number _ (omega arith) c.if-is_prstatus.ensures)

pub returns-then-is_pac_mask : goal.returns-then-is_pac_mask
returns-then-is_pac_mask c =
    c.masks_at.ensures ∙ sym (c.loop-number.invariant ∙ masks-here c.args.notes.now c.loop-number.number _ (omega arith) c.if-is_prstatus.ensures c.if-is_pac_mask.ensures)

pub loop-number-preserved : goal.loop-number-preserved
loop-number-preserved c = c.loop-number.invariant ∙ masks-later c.args.notes.now c.loop-number.number _ (omega arith) c.if-is_prstatus.ensures c.if-is_pac_mask.ensures

pub returns : goal.returns
returns c =
    sym (c.loop-number.invariant ∙ masks-end c.loop-number.number (drop c.loop-number.number (notes_seen c.args.notes.now)) (notes-end c.args.notes.now c.loop-number.number (omega arith)))
