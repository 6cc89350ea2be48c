use Rattle.std.proofs.Common.{◌∙◌, sym}
use Rattle.framehop_pe.specs.ToUndo.{parts_of}
use Rattle.framehop_pe.proofs.Followed.{rule-followed}
use Rattle.framehop_pe.proofs.OneByOne.{leads}
use Rattle.framehop_pe.proofs.laws.rules_undo_one_by_one.Goals as goal

pub returns : goal.returns
returns c = λ undo rule of is_first registers words caller fits is.
    leads undo is_first registers words caller (rule-followed (parts_of undo) rule of)
    (sym (c.rules_of_sequences.ensures.meaning (parts_of undo) rule of is_first registers words fits) ∙ is)
