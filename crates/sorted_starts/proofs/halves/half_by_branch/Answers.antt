use Rattle.std.proofs.Common.{◌≡◌, ◌+◌, ◌/◌, if◌then◌else◌, arith}
use Rattle.std.specs.Prelude.{nat_le}
use Rattle.std.proofs.lemmas.Bool.Decides.{nat_tests}
use Rattle.sorted_starts.proofs.Halving.{by-branch, half-left}
use Rattle.sorted_starts.proofs.halves.half_by_branch.Goals as goal
use Rattle.sorted_starts.proofs.halves.half_by_branch.Goals.{then-start_at-limit, else-start_at-limit}

pub halved-requires-clause-reads : goal.halved-requires-clause-reads
halved-requires-clause-reads g c = let few = (c.requires.left.few 64 (omega (arith, c.requires.left.fits))).0 in omega arith

pub returns-clause-left : goal.returns-clause-left
returns-clause-left g c =
    let start = g.T.Starts.start c.args.starts.now in
    let first = c.args.left.low + c.args.left.more in
    let half = c.args.left.len / 2 in
    let more : (if nat_le (start (first + half)) c.args.limit then half else 0) ≡ c.if-start_at-limit.passed =
    elim c.if-start_at-limit.branch [
      | then-start_at-limit w ↦ grind (arith, nat_tests, c.start_at.ensures, w.if-start_at-limit.true, w.passed-is)
      | else-start_at-limit w ↦ grind (arith, nat_tests, c.start_at.ensures, w.if-start_at-limit.false, w.passed-is)
    ] in
    rw c.halved.ensures (half-left (g.T.Starts.count c.args.starts.now) start c.requires.sorted c.args.limit first c.args.left.len c.args.left.reads (first + c.if-start_at-limit.passed)
    c.requires.several c.requires.left (by-branch first half c.if-start_at-limit.passed (start (first + half)) c.args.limit more))
