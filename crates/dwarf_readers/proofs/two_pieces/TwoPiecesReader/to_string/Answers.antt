use Rattle.std.proofs.Common.{rules}
use Rattle.std.proofs.lemmas.Str.{IsUtf8-string_bytes}
use Rattle.dwarf_readers.proofs.two_pieces.TwoPiecesReader.to_string.Goals as goal

pub returns-in-Ok-clause-valid : goal.returns-in-Ok-clause-valid
returns-in-Ok-clause-valid g c = let text = IsUtf8-string_bytes c.in-Ok.text in search rules
