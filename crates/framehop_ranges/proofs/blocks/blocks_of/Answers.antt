use Rattle.std.proofs.Common.{arith, ◌≡◌, length, length-append, ap, [], ◌∷◌, ◌++◌}
use Rattle.std.proofs.lemmas.Nat.{pow_pos}
use Rattle.framehop_ranges.proofs.BlockLaws.{more-blocks, limit-fits, next-limit, place-fits, rises-in-order}
use Rattle.framehop_ranges.proofs.blocks.blocks_of.Goals as goal

pub overflow_cast-passed : goal.overflow_cast-passed
overflow_cast-passed g c =
    let place = place-fits c.args.entries.now c.index-entries-passed.result c.requires.rises c.limits.passed (omega (arith, c.limits-test.true)) in
    let fits = c.index-entries-passed.element_fits.fits in
    omega (arith, place, fits)

pub passed_from-passed-requires-clause-ordered : goal.passed_from-passed-requires-clause-ordered
passed_from-passed-requires-clause-ordered g c = rises-in-order c.args.entries.now c.requires.rises

pub limits-smaller : goal.limits-smaller
limits-smaller g c =
    let fits = limit-fits c.limits.limit c.limits.passed c.args.entries.now c.index-entries-passed.result (omega (arith, c.limits-test.true)) c.limits.invariant.passed c.index-entries-passed.element_fits.fits in
    omega (arith, fits, c.block_size-size.ensures.size, pow_pos c.args.shift)

pub limits-preserved : goal.limits-preserved
limits-preserved g c =
    let known = c.limits.invariant in
    let fits = limit-fits c.limits.limit c.limits.passed c.args.entries.now c.index-entries-passed.result (omega (arith, c.limits-test.true)) known.passed c.index-entries-passed.element_fits.fits in
    let pushed : c.push.new.self.items ≡ c.limits.blocks.items ++ c.limits.passed ∷ [] = c.in_ok-push.ensures.items in
    record {
      size = known.size;
      limit = next-limit c.limits.limit c.block_size-size.result (length c.limits.blocks.items) (length c.push.new.self.items) known.limit (omega (arith, ap length pushed, length-append c.limits.blocks.items (c.limits.passed ∷ [])));
      fits = omega (arith, fits);
      blocks = more-blocks c.block_size-size.result c.limits.limit c.args.entries.now c.limits.blocks.items c.push.new.self.items c.limits.passed known.limit known.blocks known.passed pushed;
      passed = c.passed_from-passed.ensures;
    }
