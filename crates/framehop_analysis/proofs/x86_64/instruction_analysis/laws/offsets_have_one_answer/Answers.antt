use Rattle.framehop_analysis.proofs.Laws.{rule_at_x86_64}
use Rattle.framehop_analysis.proofs.x86_64.instruction_analysis.laws.offsets_have_one_answer.Goals as goal

pub returns : goal.returns
returns c = rule_at_x86_64
