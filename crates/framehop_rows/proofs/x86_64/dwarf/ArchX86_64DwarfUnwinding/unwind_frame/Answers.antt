use Rattle.framehop_rows.specs.DirectRow.{direct_answer}
use Rattle.framehop_rows.specs.ScaledRow.{scaled_rule}
use Rattle.framehop_rows.proofs.TakenParts.{answers-as, meets-as}
use Rattle.framehop_rows.proofs.x86_64.dwarf.ArchX86_64DwarfUnwinding.unwind_frame.Goals as goal

pub returns-clause-answers : goal.returns-clause-answers
returns-clause-answers g c =
    answers-as scaled_rule direct_answer c.args.is_first_frame g.S.Stack.ArrayLike.capacity c.args.encoding.address_size _ _ _ _ _ _ _ _ c.parts_of_row-parts.ensures c.unwind_frame_by_parts.ensures.answers

pub returns-clause-expression : goal.returns-clause-expression
returns-clause-expression g c h = meets-as scaled_rule _ _ c.parts_of_row-parts.ensures (c.unwind_frame_by_parts.ensures.expression h)
