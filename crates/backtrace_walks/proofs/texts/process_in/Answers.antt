use Rattle.std.proofs.Common.{◌∙◌}
use Rattle.backtrace_files.specs.FileViews.{files_seen}
use Rattle.backtrace_headings.specs.HeadingViews.{heading_view}
use Rattle.core_files.specs.CoreViews.{contents_of}
use Rattle.core_files.specs.MemoryViews.{files_of, segments_of}
use Rattle.backtrace_walks.proofs.ProcessLaws.{same_process}
use Rattle.backtrace_walks.proofs.texts.process_in.Goals as goal

pub returns-clause-process : goal.returns-clause-process
returns-clause-process c =
    same_process (contents_of c.args.core.now) (files_seen c.args.files.now) (segments_of c.memory.result) (files_of c.memory.result) (heading_view c.heading_of.result)
    c.memory.ensures.segments (c.memory.ensures.files ∙ c.requires) c.heading_of.ensures
