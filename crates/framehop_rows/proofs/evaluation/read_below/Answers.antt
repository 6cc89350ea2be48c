use Rattle.std.proofs.Common.{arith, ◌≡◌, ◌-◌, ◌≤◌}
use Rattle.framehop_registers.proofs.Laws.{over_weaker}
use Rattle.framehop_rows.proofs.DirectRows.{below_is}
use Rattle.framehop_rows.proofs.evaluation.read_below.Goals as goal

pub returns-clause-value : goal.returns-clause-value
returns-clause-value g c =
    let le : 8 ≤ c.args.cfa = grind arith in
    let place : c.in_ok-at.at ≡ c.args.cfa - 8 = grind arith in
    over_weaker c.read_at.ensures.value
    (λ words is. below_is words c.args.cfa c.in_ok-at.at c.read_at.result le place is)
