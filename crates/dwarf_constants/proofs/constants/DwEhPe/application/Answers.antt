use Rattle.std.proofs.lemmas.Nat.Bits.{and_high}
use Rattle.dwarf_constants.proofs.constants.DwEhPe.application.Goals as goal

pub returns : goal.returns
returns c = and_high c.args.self.0 3 4
