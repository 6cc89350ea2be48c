use Rattle.std.proofs.Common.{◌≡◌, arith, sym, subst, to_z, of_z}
use Rattle.std.specs.Prelude.{ℤ}
use Rattle.std.specs.Int.{w128}
use Rattle.std.proofs.lemmas.Int.{ints}
use Rattle.framehop_analysis.specs.EpilogueViewsAarch64.{restored_of}
use Rattle.framehop_analysis.specs.FunctionEndsAarch64.{IsLeft}
use Rattle.framehop_analysis.proofs.EpilogueReadingAarch64.{prefix_and_one, returned, no_end}
use Rattle.framehop_analysis.proofs.aarch64.instruction_analysis.epilogue.restored_by_short_epilogue.Goals as goal

pub loop-kind-preserved : goal.loop-kind-preserved
loop-kind-preserved c =
    let (done, prefix) = c.loop-kind.invariant in
    let (x, fits, is, seen) = c.in-Some.ensures.kind in (
      _,
      prefix_and_one c.args.bytes.now c.loop-kind.rest.now c.in-Some.suffix.now done x c.in-Some.kind (restored_of c.loop-kind.restored) (restored_of c.after-restored.result) prefix is fits seen
          c.after-restored.ensures.raise c.after-restored.ensures.fp c.after-restored.ensures.lr c.after-restored.ensures.near.0 c.after-restored.ensures.near.1,
    )

pub returns-then-is_left-clause-restored : goal.returns-then-is_left-clause-restored
returns-then-is_left-clause-restored c =
    let (done, prefix) = c.loop-kind.invariant in
    let same : to_z w128 (of_z w128 c.from.result) ≡ c.loop-kind.restored.raise = omega (arith, ints, prefix.low, prefix.high, prefix.within, c.from.ensures) in
    returned c.args.bytes.now c.loop-kind.rest.now done (restored_of c.loop-kind.restored) prefix (subst (λ (z : ℤ). IsLeft c.loop-kind.rest.now z) same (c.is_left.ensures.0 c.if-is_left.true))

pub returns-else-is_left-clause-none : goal.returns-else-is_left-clause-none
returns-else-is_left-clause-none c =
    let (done, prefix) = c.loop-kind.invariant in
    let same : to_z w128 (of_z w128 c.from.result) ≡ c.loop-kind.restored.raise = omega (arith, ints, prefix.low, prefix.high, prefix.within, c.from.ensures) in
    λ list. no_end c.args.bytes.now c.loop-kind.rest.now done list (restored_of c.loop-kind.restored) prefix c.in_default.ensures.none
    (λ left. let e = c.is_left.ensures.1 (subst (λ (z : ℤ). IsLeft c.loop-kind.rest.now z) (sym same) left) in let f = c.if-is_left.false in cc)
