use Rattle.json_program.proofs.Laws.{fails_after, not_failed, writes_nothing}
use Rattle.json_program.proofs.writing.writes_by_result.Goals as goal

pub returns : goal.returns
returns g c = record {
  nothing = writes_nothing;
  begun = λ w. fails_after w.result w.before w.after w.text w.failed w.prefix;
  succeeded = not_failed;
}
