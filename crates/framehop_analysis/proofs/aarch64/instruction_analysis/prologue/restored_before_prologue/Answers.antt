use Rattle.std.proofs.Common.{◌≡◌, ◌∙◌, ap, arith, ◌∷◌, to_z, of_z}
use Rattle.std.specs.Prelude.{◌+ℤ◌}
use Rattle.std.specs.Int.{w64}
use Rattle.std.proofs.lemmas.Int.{ints}
use Rattle.framehop_analysis.proofs.PrologueReadingAarch64.{run_and_one, whole_run}
use Rattle.framehop_analysis.proofs.aarch64.instruction_analysis.prologue.restored_before_prologue.Goals as goal

pub loop-before-preserved : goal.loop-before-preserved
loop-before-preserved c =
    let (instructions, run) = c.loop-before.invariant in
    let (instruction, fits, is, seen) = c.in-Some.ensures.lowering in
    let same : to_z w64 (of_z w64 c.in-Some.lowering) ≡ c.in-Some.lowering = omega (arith, ints, c.in-Some.ensures.near.0, c.in-Some.ensures.near.1) in (
      instruction ∷ instructions,
      run_and_one c.args.bytes.now c.loop-before.prefix.now c.in-Some.before.now instructions instruction c.in-Some.lowering c.loop-before.restored c.before-restored.result run
          fits is seen (c.before-restored.ensures.raise ∙ ap (λ z. c.loop-before.restored.raise +ℤ z) same) c.before-restored.ensures.fp c.before-restored.ensures.lr c.before-restored.ensures.near.0 c.before-restored.ensures.near.1,
    )

pub returns-clause-raise : goal.returns-clause-raise
returns-clause-raise c =
    let (instructions, run) = c.loop-before.invariant in
    (c.loop-before.prefix.now, instructions, whole_run c.args.bytes.now c.loop-before.prefix.now instructions c.loop-before.restored run c.in_default.ensures.none, run.lowered)
