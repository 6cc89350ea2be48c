use Rattle.dwarf_readers.proofs.Lengths.{string_takes}
use Rattle.dwarf_readers.proofs.remainders.strings_take.Goals as goal

pub returns : goal.returns
returns c = string_takes
