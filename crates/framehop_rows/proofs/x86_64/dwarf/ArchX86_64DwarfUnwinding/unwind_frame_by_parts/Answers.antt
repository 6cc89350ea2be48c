use Rattle.std.proofs.Common.{sym, ◌∙◌}
use Rattle.framehop_rows.specs.DirectRow.{direct_answer}
use Rattle.framehop_rows.specs.ScaledRow.{scaled_rule}
use Rattle.framehop_rows.proofs.TakenParts.{answers-as, meets-none}
use Rattle.framehop_rows.proofs.x86_64.dwarf.ArchX86_64DwarfUnwinding.unwind_frame_by_parts.Goals as goal

pub returns-clause-answers : goal.returns-clause-answers
returns-clause-answers g c = λ row is.
    answers-as scaled_rule direct_answer c.args.is_first_frame g.S.Stack.ArrayLike.capacity c.args.encoding.address_size _ _ _ _ _ _ _ _ (c.parts.ensures ∙ sym is) c.unwind_frame_by_parts.ensures.answers

pub returns-clause-memory : goal.returns-clause-memory
returns-clause-memory g c h = meets-none scaled_rule _ c.args.parts.now c.parts.ensures (c.unwind_frame_by_parts.ensures.expression h)
