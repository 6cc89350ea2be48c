use Rattle.backtrace_lint.proofs.IndexLaws.{index-fault, index-if-no-fault}
use Rattle.backtrace_lint.proofs.index_laws.faults_are_why_there_is_no_index.Goals as goal

pub returns : goal.returns
returns c = record {
  has = index-if-no-fault;
  error = index-fault;
}
