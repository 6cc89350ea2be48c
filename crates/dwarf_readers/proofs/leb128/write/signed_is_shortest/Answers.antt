use Rattle.dwarf_readers.proofs.SignedSpellings.{signed_shortest}
use Rattle.dwarf_readers.proofs.leb128.write.signed_is_shortest.Goals as goal

pub returns : goal.returns
returns c = signed_shortest
