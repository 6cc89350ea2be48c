use Rattle.std.proofs.Common.{◌∙◌, ap, subst, Err}
use Rattle.framehop_histories.specs.Performs.{OneMovesOn}
use Rattle.framehop_histories.proofs.commands.Answer.of_move.Goals as goal

pub returns-in-Err-OutOfMemory-clause-moves : goal.returns-in-Err-OutOfMemory-clause-moves
returns-in-Err-OutOfMemory-clause-moves g c number old new moved regs on =
    let memory = rw c.in-Err-OutOfMemory.is at c.in-Err-OutOfMemory.field-0-is in
    (moved, subst (λ answer. OneMovesOn number old answer moved new) (c.in-Err-OutOfMemory.is ∙ ap Err memory) on)
