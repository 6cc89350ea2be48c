use Rattle.std.proofs.Common.{◌∙◌, sym, arith}
use Rattle.std.proofs.lemmas.Bool.Decides.{Decides-eqb}
use Rattle.framehop_analysis.proofs.EndWords.{auth_branch_is}
use Rattle.framehop_analysis.proofs.aarch64.instruction_analysis.branches.is_auth_branch.Goals as goal

pub returns-then-from_bit_10-eq3524546 : goal.returns-then-from_bit_10-eq3524546
returns-then-from_bit_10-eq3524546 c =
    let decides = Decides-eqb c.rd.result 16 in (
      λ test. auth_branch_is c.args.word (sym c.from_bit_10.ensures ∙ c.if-from_bit_10-eq3524546.true) (sym c.rd.ensures ∙ decides.0 test),
      λ branch. decides.1 (omega (arith, c.rd.ensures, branch.fits, branch.is)),
    )
