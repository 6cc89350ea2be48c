use Rattle.dwarf_readers.proofs.Spellings.{unsigned_again_lemma}
use Rattle.dwarf_readers.proofs.leb128.write.unsigned_again.Goals as goal

pub returns : goal.returns
returns c = λ v below rest offset big. unsigned_again_lemma v rest offset big below
