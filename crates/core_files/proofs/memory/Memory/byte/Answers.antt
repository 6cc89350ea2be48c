use Rattle.std.proofs.Common.{◌∙◌}
use Rattle.core_files.specs.MemoryViews.{segments_of, files_of}
use Rattle.core_files.proofs.Words.{byte-here, byte-left-out}
use Rattle.core_files.proofs.memory.Memory.byte.Goals as goal

pub returns-in-Some : goal.returns-in-Some
returns-in-Some c = byte-here (segments_of c.args.self.now) (files_of c.args.self.now) c.args.address c.in-Some.byte c.in-Some.ensures

pub returns-in-None : goal.returns-in-None
returns-in-None c = c.byte_left_out.ensures ∙ byte-left-out (segments_of c.args.self.now) (files_of c.args.self.now) c.args.address c.in-None.ensures
