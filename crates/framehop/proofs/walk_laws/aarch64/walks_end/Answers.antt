use Rattle.framehop_registers.specs.RegistersAarch64.{sp_of}
use Rattle.framehop_unwinder.specs.Judge.{judge}
use Rattle.framehop.specs.WalkLengths.{Anything, RaisesSp}
use Rattle.framehop.specs.StepMeanings.{meanings_aarch64}
use Rattle.framehop.proofs.WalkEnds.{ends}
use Rattle.framehop.proofs.walk_laws.aarch64.walks_end.Goals as goal

pub returns : goal.returns
returns c limits modules words pc registers count goes =
    let judgment = judge (meanings_aarch64 limits) modules in
    let raises : RaisesSp judgment words sp_of Anything Anything = record {
      known = λ frame registers caller known made answered. tt;
      raised = λ to registers caller known made answered. c.later_steps_raise_sp.ensures limits modules words to registers caller answered;
    } in
    ends judgment words sp_of Anything Anything raises pc count registers tt goes
