use Rattle.dwarf_readers.proofs.Following.{string_steady}
use Rattle.dwarf_readers.proofs.more.strings_stay.Goals as goal

pub returns : goal.returns
returns c = string_steady
