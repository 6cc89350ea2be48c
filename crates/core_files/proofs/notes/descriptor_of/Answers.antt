use Rattle.std.proofs.Common.{arith, sym, drop, ◌∙◌}
use Rattle.core_files.specs.NoteViews.{notes_seen}
use Rattle.core_files.proofs.NoteLaws.{kind-here, kind-later, kind-end, notes-end}
use Rattle.core_files.proofs.notes.descriptor_of.Goals as goal

pub returns-then-is_kind : goal.returns-then-is_kind
returns-then-is_kind c = sym (c.loop-number.invariant ∙ kind-here c.args.notes.now c.loop-number.number _ (omega arith) c.args.kind c.if-is_kind.ensures)

pub loop-number-preserved : goal.loop-number-preserved
loop-number-preserved c = c.loop-number.invariant ∙ kind-later c.args.notes.now c.loop-number.number _ (omega arith) c.args.kind c.if-is_kind.ensures

pub returns : goal.returns
returns c =
    sym (c.loop-number.invariant
    ∙ kind-end c.loop-number.number (drop c.loop-number.number (notes_seen c.args.notes.now)) c.args.kind (notes-end c.args.notes.now c.loop-number.number (omega arith)))
