use Rattle.dwarf_readers.proofs.ReadMemory.{memory_err, memory_if, memory_ok, memory_test, memory_then, memory_there}
use Rattle.dwarf_readers.proofs.memory.answers_never_want_memory.Goals as goal

pub returns : goal.returns
returns g c = record {
  then_other = λ first next h others. memory_then h others;
  either = λ test a b p q. memory_if test p q;
  ok = λ x. memory_ok;
  err = λ e other. memory_err other;
  test = memory_test;
  there = memory_there;
}
