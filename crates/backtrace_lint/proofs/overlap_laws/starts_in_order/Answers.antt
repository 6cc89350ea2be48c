use Rattle.backtrace_lint.proofs.Sorted.{in-order-keeps, in-order-non-decreasing, in-order-permutes}
use Rattle.backtrace_lint.proofs.overlap_laws.starts_in_order.Goals as goal

pub returns-clause-same : goal.returns-clause-same
returns-clause-same c = in-order-permutes

pub returns-clause-sorted : goal.returns-clause-sorted
returns-clause-sorted c = in-order-non-decreasing

pub returns-clause-stable : goal.returns-clause-stable
returns-clause-stable c fdes fde = in-order-keeps fde fdes
