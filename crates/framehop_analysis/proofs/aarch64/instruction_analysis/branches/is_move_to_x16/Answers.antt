use Rattle.std.proofs.Common.{◌∙◌, sym}
use Rattle.std.proofs.lemmas.Bool.Decides.{Decides-eqb}
use Rattle.framehop_analysis.proofs.EndWords.{move_is, has_move}
use Rattle.framehop_analysis.proofs.aarch64.instruction_analysis.branches.is_move_to_x16.Goals as goal

pub returns-then-move_class-eq5 : goal.returns-then-move_class-eq5
returns-then-move_class-eq5 c =
    let decides = Decides-eqb c.rd.result 16 in (
      λ test.
          move_is c.args.word (sym c.from_bit_29.ensures ∙ c.if-from_bit_29-ne6.false) (sym c.move_class.ensures ∙ c.if-move_class-eq5.true) (sym c.rd.ensures ∙ decides.0 test),
      λ move. decides.1 (c.rd.ensures ∙ (has_move c.args.word move).low),
    )
