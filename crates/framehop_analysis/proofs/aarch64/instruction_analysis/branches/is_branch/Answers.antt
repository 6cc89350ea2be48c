use Rattle.std.proofs.Common.{◌∙◌, sym}
use Rattle.std.proofs.lemmas.Bool.Decides.{Decides-eqb}
use Rattle.framehop_analysis.proofs.EndWords.{branch_is, branch_top}
use Rattle.framehop_analysis.proofs.aarch64.instruction_analysis.branches.is_branch.Goals as goal

pub returns : goal.returns
returns c =
    let decides = Decides-eqb c.from_bit_26.result 5 in
    (λ test. branch_is c.args.word (sym c.from_bit_26.ensures ∙ decides.0 test), λ branch. decides.1 (c.from_bit_26.ensures ∙ branch_top c.args.word branch))
