use Rattle.framehop_pe.proofs.AttemptAnswers.{leaf-answers}
use Rattle.framehop_pe.proofs.x86_64.pe.undo.Goals as goal

pub returns-in-Leaf-clause-undone : goal.returns-in-Leaf-clause-undone
returns-in-Leaf-clause-undone g c = leaf-answers _ _ c.args.undoing c.in-Leaf.is
