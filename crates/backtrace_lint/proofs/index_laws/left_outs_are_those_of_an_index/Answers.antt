use Rattle.backtrace_lint.proofs.IndexLaws.{count-left-out, held-others}
use Rattle.backtrace_lint.proofs.index_laws.left_outs_are_those_of_an_index.Goals as goal

pub returns : goal.returns
returns c = record {
  count = count-left-out;
  held = held-others;
}
