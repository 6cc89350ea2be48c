use Rattle.std.proofs.Common.{inl}
use Rattle.std.proofs.lemmas.Result.{err_from_is_err_and}
use Rattle.cases_unwinding.proofs.Codes.{words_refused}
use Rattle.cases_unwinding.proofs.parts.read_core.tables.read_offsets.Goals as goal

pub returns-in_err-offset-clause-refused : goal.returns-in_err-offset-clause-refused
returns-in_err-offset-clause-refused c =
    let e = err_from_is_err_and c.from_residual.result c.from_residual.ensures.1 in
    rw (e.1, e.2) (inl (words_refused _ _ _ _ _ _ c.loop-i-test.true c.loop-i.invariant c.in_err-offset.ensures.read))
