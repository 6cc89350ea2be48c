use Rattle.std.proofs.Common.{◌≡◌, arith}
use Rattle.list_laws.proofs.Laws.{at-least-none, enough-none-left, enough-one-left}
use Rattle.sorted_starts.proofs.halves.halve.Goals as goal

pub returns-then-count-eq0-clause-enough : goal.returns-then-count-eq0-clause-enough
returns-then-count-eq0-clause-enough g c k h = enough-none-left 0 0 k (at-least-none 0) (omega (arith, h, c.start_count-count.ensures, c.if-count-eq0.true))

pub overflow_add-result-3 : goal.overflow_add-result-3
overflow_add-result-3 g c = let few = (c.halves.invariant.few 64 (omega (arith, c.halves.invariant.fits))).0 in omega arith

pub returns-clause-enough : goal.returns-clause-enough
returns-clause-enough g c k h =
    let one : c.halves.left.len ≡ 1 = omega (arith, c.halves-test.false, c.halves.invariant.some) in
    enough-one-left (g.T.Starts.count c.args.starts.now) c.halves.left.reads k (rw one at c.halves.invariant.enough) (omega arith)
