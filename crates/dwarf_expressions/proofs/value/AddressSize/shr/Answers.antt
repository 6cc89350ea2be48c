use Rattle.dwarf_expressions.proofs.Words.{shifted_away}
use Rattle.dwarf_expressions.proofs.value.AddressSize.shr.Goals as goal

pub returns-else-right-lt64 : goal.returns-else-right-lt64
returns-else-right-lt64 c = shifted_away c.args.self.bytes c.args.left c.args.right c.ranges.left.fits c.if-right-lt64.false
