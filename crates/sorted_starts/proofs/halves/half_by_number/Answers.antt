use Rattle.std.proofs.Common.{◌≡◌, ◌∙◌, ◌+◌, ◌*◌, ◌/◌, if◌then◌else◌, ap, arith}
use Rattle.std.specs.Prelude.{nat_le}
use Rattle.sorted_starts.proofs.Halving.{half-left}
use Rattle.sorted_starts.proofs.halves.half_by_number.Goals as goal

pub halved-requires-clause-reads : goal.halved-requires-clause-reads
halved-requires-clause-reads g c = let few = (c.requires.left.few 64 (omega (arith, c.requires.left.fits))).0 in omega arith

pub returns-clause-left : goal.returns-clause-left
returns-clause-left g c =
    let start = g.T.Starts.start c.args.starts.now in
    let first = c.args.left.low + c.args.left.more in
    let half = c.args.left.len / 2 in
    let place : c.args.left.low + half + c.args.left.more ≡ first + half = omega arith in
    let next : first + half * c.count_at_or_below.result ≡ first + half * (if nat_le (start (first + half)) c.args.limit then 1 else 0) =
    ap (λ n. first + half * n) (c.count_at_or_below.ensures ∙ ap (λ place. if nat_le (start place) c.args.limit then 1 else 0) place) in
    rw c.halved.ensures (half-left (g.T.Starts.count c.args.starts.now) start c.requires.sorted c.args.limit first c.args.left.len c.args.left.reads (first + half * c.count_at_or_below.result)
    c.requires.several c.requires.left next)
