use Rattle.kernel_symbols.proofs.FirstBytes.{first-byte}
use Rattle.kernel_symbols.proofs.lines.first_of.Goals as goal

pub returns : goal.returns
returns c = first-byte c.args.wanted c.args.bytes.now _ c.memchr.ensures
