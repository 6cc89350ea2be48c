use Rattle.json_program.proofs.Laws.{begun_line, written_all, written_prefix, written_more, written_none}
use Rattle.json_program.proofs.writing.lines_by_parts.Goals as goal

pub returns : goal.returns
returns c = record {
  none = written_none;
  more = λ next. written_more next.first next.before next.after next.line next.left next.all next.written;
  begun = λ next. begun_line next.first next.before next.after next.line next.left next.all next.written;
  prefix = written_prefix;
  all = written_all;
}
