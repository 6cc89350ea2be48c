use Rattle.framehop_pe_codes.proofs.EpilogsSpelled.{read-exactly}
use Rattle.framehop_pe_codes.proofs.laws.epilogs_are_read_as_spelled.Goals as goal

pub returns : goal.returns
returns c = read-exactly
