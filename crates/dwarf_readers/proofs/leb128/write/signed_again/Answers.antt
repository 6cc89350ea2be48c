use Rattle.dwarf_readers.proofs.SignedSpellings.{signed_again_lemma}
use Rattle.dwarf_readers.proofs.leb128.write.signed_again.Goals as goal

pub returns : goal.returns
returns c = λ v least most rest offset big. signed_again_lemma v rest offset big least most
