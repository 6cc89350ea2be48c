use Rattle.std.proofs.Common.{◌∙◌, sym}
use Rattle.fold_stacks.proofs.EndedThreads.{name-looked-up}
use Rattle.fold_stacks.proofs.comms.Comms.number_of.Goals as goal

pub returns-in-None : goal.returns-in-None
returns-in-None c =
    let found = rw c.key_of.ensures at c.get.ensures.value in
    rw (← c.in-None.ensures, ← c.self.view_is) (c.copied.ensures ∙ found ∙ sym (name-looked-up c.args.thread c.self.inside.ended.entries))
