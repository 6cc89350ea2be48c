use Rattle.std.proofs.Common.{inl, inr}
use Rattle.std.proofs.lemmas.Result.{err_from_is_err_and}
use Rattle.cases_unwinding.proofs.Codes.{declared_more, declared_refused}
use Rattle.cases_unwinding.proofs.parts.read_core.tables.declared.Goals as goal

pub returns-in_err-table : goal.returns-in_err-table
returns-in_err-table c =
    let e = err_from_is_err_and c.from_residual.result c.from_residual.ensures.1 in
    rw (e.1, e.2) (elim c.in_err-table.ensures [
      | inl table ↦ inl (declared_refused _ _ _ _ _ _ c.loop-offset-test.true c.loop-offset.invariant (rw c.from-tables.ensures at table))
      | inr memory ↦ inr memory
    ])

pub loop-offset-preserved : goal.loop-offset-preserved
loop-offset-preserved c =
    let table = rw c.from-tables.ensures at c.in_ok-table.ensures in
    rw c.declared_codes-declared.ensures (declared_more _ _ _ _ _ _ c.loop-offset-test.true c.loop-offset.invariant table)
