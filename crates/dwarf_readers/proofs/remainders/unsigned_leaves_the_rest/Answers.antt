use Rattle.dwarf_readers.proofs.Rests.{unsigned_rest}
use Rattle.dwarf_readers.proofs.remainders.unsigned_leaves_the_rest.Goals as goal

pub returns : goal.returns
returns c = unsigned_rest
