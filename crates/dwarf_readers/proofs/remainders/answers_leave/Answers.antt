use Rattle.dwarf_readers.proofs.Lengths.{leaves_err, leaves_from, leaves_if, leaves_is, leaves_none, leaves_ok, leaves_then}
use Rattle.dwarf_readers.proofs.remainders.answers_leave.Goals as goal

pub returns : goal.returns
returns g c = record {
  then_other = λ rest other n m s first next h others. leaves_then h others;
  either = λ rest n s test a b p q. leaves_if test p q;
  ok = λ rest n s x h. leaves_ok h;
  err = λ rest n s e. leaves_err;
  none = λ n s value. leaves_none value;
  from = λ rest n m s t answer h le. leaves_from h le;
  known = λ rest n s answer x h is. leaves_is h is;
}
