use Rattle.core_files.specs.SegmentViews.{parts_seen}
use Rattle.core_files.proofs.Parts.{read-in-parts}
use Rattle.core_files.proofs.core_file.CoreFile.parse_in_parts.Goals as goal

pub returns-clause-whole : goal.returns-clause-whole
returns-clause-whole c = read-in-parts c.args.head.now (parts_seen c.args.parts.now) c.read.result c.read.ensures
