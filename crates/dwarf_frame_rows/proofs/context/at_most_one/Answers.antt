use Rattle.dwarf_frame_rows.proofs.OnlyRule.{more-counted}
use Rattle.dwarf_frame_rows.proofs.context.at_most_one.Goals as goal

pub returns-in_default-clause-more : goal.returns-in_default-clause-more
returns-in_default-clause-more g c = λ _. more-counted c.pairs.result.now c.args.rules.now c.pairs.ensures.map c.pairs.ensures.once c.in_default.len_at_least
