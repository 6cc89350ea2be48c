use Rattle.core_files.specs.MemoryViews.{word_of}
use Rattle.backtrace_walks.proofs.arch.ArchAarch64ThreadArch.called.Goals as goal

pub returns : goal.returns
returns c = c.called_aarch64.ensures (word_of c.args._memory.now)
