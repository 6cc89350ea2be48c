use Rattle.dwarf_readers.proofs.Onward.{on_err, on_from, on_if, on_is, on_ok, on_then, on_value}
use Rattle.dwarf_readers.proofs.remainders.answers_go_on.Goals as goal

pub returns : goal.returns
returns g c = record {
  then_other = λ rest other offset first next h others. on_then h others;
  after_value = λ other offset value next others. on_value value others;
  either = λ rest offset test a b p q. on_if test p q;
  ok = λ rest offset x h. on_ok h;
  err = λ rest offset e. on_err;
  from = λ rest offset before answer h le. on_from h le;
  known = λ rest offset answer x h is. on_is h is;
}
