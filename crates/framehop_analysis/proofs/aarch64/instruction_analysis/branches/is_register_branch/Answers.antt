use Rattle.std.proofs.Common.{◌∙◌, sym, arith}
use Rattle.std.proofs.lemmas.Bool.Decides.{Decides-eqb}
use Rattle.framehop_analysis.proofs.EndWords.{register_branch_is}
use Rattle.framehop_analysis.proofs.aarch64.instruction_analysis.branches.is_register_branch.Goals as goal

pub returns-then-from_bit_10-eq3508160 : goal.returns-then-from_bit_10-eq3508160
returns-then-from_bit_10-eq3508160 c =
    let decides = Decides-eqb c.rd.result 0 in (
      λ test. register_branch_is c.args.word (sym c.from_bit_10.ensures ∙ c.if-from_bit_10-eq3508160.true) (sym c.rd.ensures ∙ decides.0 test),
      λ branch. decides.1 (omega (arith, c.rd.ensures, branch.fits, branch.is)),
    )
