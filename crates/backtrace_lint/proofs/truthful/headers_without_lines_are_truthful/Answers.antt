use Rattle.backtrace_lint.proofs.TruthfulHeaders.{truthful-rows}
use Rattle.backtrace_lint.proofs.truthful.headers_without_lines_are_truthful.Goals as goal

pub returns : goal.returns
returns c h sound none = (truthful-rows h sound none).header
