use Rattle.std.proofs.Common.{◌∙◌, sym, ap}
use Rattle.framehop_code.specs.Places.{CodeBytes, code_of}
use Rattle.framehop_code_ways.specs.Callers.{rule_from}
use Rattle.framehop_code_ways.specs.declared.way.BranchesOut.TheVariants.{Unknown}
use Rattle.framehop_code_ways.proofs.Alike.{alike}
use Rattle.framehop_code_ways.proofs.caller.caller_by_way.Goals as goal

pub returns-clause-alike : goal.returns-clause-alike
returns-clause-alike g c other same =
    alike c.parts_are_same.ensures g.A.WayUnwinding.first_rule c.args.bounds (code_of c.args.code) other c.args.address c.args.is_first_frame same
    ∙ sym (ap (λ (part : CodeBytes). rule_from g.A.WayUnwinding.first_rule Unknown c.args.bounds part c.args.address c.args.is_first_frame) c.within.ensures.part)
    ∙ sym c.rule_from.ensures.rule
