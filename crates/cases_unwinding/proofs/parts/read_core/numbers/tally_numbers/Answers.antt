use Rattle.std.proofs.Common.{◌≡◌, ◌==◌, arith, false, length}
use Rattle.std.proofs.lemmas.Grind.{common_steps}
use Rattle.std.proofs.lemmas.Result.{err_from_is_err_and}
use Rattle.cases_unwinding.specs.Little.{little}
use Rattle.cases_unwinding.proofs.Sums.{tallied_more, tallied_refused, tallied_start}
use Rattle.cases_unwinding.proofs.parts.read_core.numbers.tally_numbers.Goals as goal

pub numbers-init : goal.numbers-init
numbers-init c = tallied_start (little c.args.reader)

pub returns-in_err-number : goal.returns-in_err-number
returns-in_err-number c =
    let e = err_from_is_err_and c.from_residual.result c.from_residual.ensures.1 in
    let some : (length c.numbers.reader.slice.now == 0) ≡ false = grind (arith, common_steps) in
    rw (e.1, e.2) (tallied_refused _ _ _ _ _ c.numbers.invariant some c.in_err-number.ensures.read)

pub numbers-preserved : goal.numbers-preserved
numbers-preserved c =
    let some : (length c.numbers.reader.slice.now == 0) ≡ false = grind (arith, common_steps) in
    tallied_more _ _ _ _ _ _ c.numbers.invariant some c.in_ok-number.ensures.read c.in_ok-number.ensures.shorter
