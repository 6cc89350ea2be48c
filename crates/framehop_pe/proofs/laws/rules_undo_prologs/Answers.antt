use Rattle.std.proofs.Common.{◌∙◌, sym}
use Rattle.framehop_pe.proofs.Followed.{rule-followed}
use Rattle.framehop_pe.proofs.UndonePrologs.{undoes, after-fits}
use Rattle.framehop_pe.proofs.laws.rules_undo_prologs.Goals as goal

pub returns : goal.returns
returns c = λ operations rule of before after state done is_first words caller part is.
    undoes operations is_first before after words caller (rule-followed operations rule of) state.all done part
    (sym (c.rules_of_sequences.ensures.meaning operations rule of is_first after.registers words (after-fits operations before after state.all done state.fits)) ∙ is)
