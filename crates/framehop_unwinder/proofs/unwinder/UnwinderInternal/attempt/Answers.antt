use Rattle.std.proofs.Common.{rules, ◌≡◌, Some}
use Rattle.framehop_unwinder.specs.Modules.{module_found}
use Rattle.framehop_unwinder.proofs.Steps.{asked-there}
use Rattle.framehop_unwinder.proofs.unwinder.UnwinderInternal.attempt.Goals as goal

-- the module that is found wants memory
pub returns-in-Some-clause-memory : goal.returns-in-Some-clause-memory
returns-in-Some-clause-memory g c =
    let found : module_found c.args.self.now.modules c.args.address ≡ Some c.in-Some.module.now = search rules in
    record {
      never = c.unwind_frame.ensures.memory.never;
      asked = λ wanted. asked-there g.A.ModuleUnwinding.asks_memory c.args.self.now.modules c.args.is_first_frame c.args.address c.in-Some.relative_address c.in-Some.module.now c.unwind_data.result.now
          found c.in-Some.ensures.relative c.unwind_data.ensures (c.unwind_frame.ensures.memory.asked wanted);
    }
