use Rattle.framehop_index.proofs.IndexSpans.{in-spans}
use Rattle.framehop_index.proofs.cfi_index.DwarfCfiIndex.fdes.Goals as goal

pub returns-clause-found : goal.returns-clause-found
returns-clause-found c base section is =
    rw c.deref.ensures.value (in-spans c.args.self.now.fdes.items c.args.self.now.left_out base section c.args.self.now.ordered is)
