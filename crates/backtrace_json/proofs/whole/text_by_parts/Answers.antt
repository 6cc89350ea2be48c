use Rattle.backtrace_json.proofs.Laws.{text_in-parts}
use Rattle.backtrace_json.proofs.whole.text_by_parts.Goals as goal

pub returns : goal.returns
returns c form heading stacks = text_in-parts form heading stacks
