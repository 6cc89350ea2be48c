use Rattle.dwarf_readers.proofs.Following.{cond_stays, given_stays, refusal_stays, steady_then, then_stays, then_stays_as, value_stays}
use Rattle.dwarf_readers.proofs.more.answers_stay.Goals as goal

pub returns : goal.returns
returns g c = record {
  then_other = then_stays_as;
  then_read = λ more before after next. then_stays more before after next;
  then_steady = λ read next. steady_then read next;
  after_test = λ more test e before after. given_stays more test e before after;
  either = λ more test a b c d. cond_stays more test a b c d;
  value = λ more value left. value_stays more value left;
  error = λ more e. refusal_stays more e;
}
