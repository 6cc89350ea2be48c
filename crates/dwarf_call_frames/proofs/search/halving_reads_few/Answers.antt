use Rattle.dwarf_call_frames.proofs.Halves.{few_reads}
use Rattle.dwarf_call_frames.proofs.search.halving_reads_few.Goals as goal

pub returns : goal.returns
returns c = λ address k rows few. few_reads address k rows few
