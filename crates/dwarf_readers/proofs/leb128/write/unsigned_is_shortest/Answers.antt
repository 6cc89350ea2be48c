use Rattle.dwarf_readers.proofs.Spellings.{unsigned_shortest}
use Rattle.dwarf_readers.proofs.leb128.write.unsigned_is_shortest.Goals as goal

pub returns : goal.returns
returns c = unsigned_shortest
