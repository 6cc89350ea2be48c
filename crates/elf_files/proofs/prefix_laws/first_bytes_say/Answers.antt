use Rattle.elf_files.proofs.Prefixes.{header-of-prefix, segment-of-prefix}
use Rattle.elf_files.proofs.prefix_laws.first_bytes_say.Goals as goal

pub returns-clause-header : goal.returns-clause-header
returns-clause-header c = header-of-prefix

pub returns-clause-segment : goal.returns-clause-segment
returns-clause-segment c = segment-of-prefix
