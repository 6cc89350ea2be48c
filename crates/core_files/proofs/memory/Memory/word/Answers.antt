use Rattle.std.proofs.Common.{arith, sym}
use Rattle.core_files.specs.MemoryViews.{segments_of, files_of}
use Rattle.core_files.proofs.Words.{word-high}
use Rattle.core_files.proofs.memory.Memory.word.Goals as goal

pub returns-then-address : goal.returns-then-address
returns-then-address c = sym (word-high (segments_of c.args.self.now) (files_of c.args.self.now) c.args.address (omega (arith, c.if-address.true)))
