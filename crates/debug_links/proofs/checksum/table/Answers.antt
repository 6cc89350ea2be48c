use Rattle.std.proofs.Common.{◌<◌, ◌≢◌, ◌∙◌, length, arith, below_more, get_or-set_other, get_or-set_same, length-set}
use Rattle.debug_links.proofs.checksum.table.Goals as goal

-- the others stay, and the next one is there
pub loop-index-preserved : goal.loop-index-preserved
loop-index-preserved c = (
  simp length-set c.loop-index.invariant.0,
  below_more _ _
      (λ k h. let ne : k ≢ c.loop-index.index = omega arith in rw get_or-set_other (c.loop-index.invariant.1 k h))
      (let lt : c.loop-index.index < length c.loop-index.table = omega arith in rw get_or-set_same c.entry_of.ensures),
)
