use Rattle.dwarf_call_frames.proofs.HeaderRows.{rows-first}
use Rattle.dwarf_call_frames.proofs.iter.EhHdrTableIterIterator.next.Goals as goal

pub returns-clause-steps : goal.returns-clause-steps
returns-clause-steps g c = rw (c.transpose.ensures, c.next.ensures.row, c.next.ensures.left) (rows-first c.args.self.now)
