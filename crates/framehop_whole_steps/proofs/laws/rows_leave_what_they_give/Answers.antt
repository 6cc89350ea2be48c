use Rattle.framehop_whole_steps.proofs.KnownCallers.{law-aarch64, law-x86_64}
use Rattle.framehop_whole_steps.proofs.laws.rows_leave_what_they_give.Goals as goal

pub returns-clause-x86_64 : goal.returns-clause-x86_64
returns-clause-x86_64 c = law-x86_64

pub returns-clause-aarch64 : goal.returns-clause-aarch64
returns-clause-aarch64 c = law-aarch64
