use Rattle.list_laws.proofs.Halves.{at-least-half, at-least-none, at-most-half, at-most-none, enough-none-left, enough-one-left}
use Rattle.list_laws.proofs.halves_are_counted.Goals as goal

pub returns-clause-none : goal.returns-clause-none
returns-clause-none c = λ all. (at-most-none all, at-least-none all)

pub returns-clause-at_most : goal.returns-clause-at_most
returns-clause-at_most c = λ all compared left next some half before. at-most-half all compared left next some half before

pub returns-clause-at_least : goal.returns-clause-at_least
returns-clause-at_least c = λ all compared left next half before. at-least-half all compared left next half before

pub returns-clause-none_left : goal.returns-clause-none_left
returns-clause-none_left c = λ all compared k before h. enough-none-left all compared k before h

pub returns-clause-one_left : goal.returns-clause-one_left
returns-clause-one_left c = λ all compared k before h. enough-one-left all compared k before h
