use Rattle.dwarf_expressions.proofs.Words.{shifted_out, unused}
use Rattle.dwarf_expressions.proofs.value.AddressSize.shl.Goals as goal

pub returns-else-right-lt64 : goal.returns-else-right-lt64
returns-else-right-lt64 c = shifted_out c.args.self.bytes c.args.left c.args.right (unused c.args.self.bytes c.args.self.is_size) c.if-right-lt64.false
