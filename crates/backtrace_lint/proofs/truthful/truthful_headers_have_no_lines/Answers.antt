use Rattle.backtrace_lint.proofs.TruthfulLines.{exactly-truthful, truthful-lines}
use Rattle.backtrace_lint.proofs.truthful.truthful_headers_have_no_lines.Goals as goal

pub returns-clause-no_line : goal.returns-clause-no_line
returns-clause-no_line c = truthful-lines

pub returns-clause-exactly : goal.returns-clause-exactly
returns-clause-exactly c = exactly-truthful
