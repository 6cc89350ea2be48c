use Rattle.std.proofs.Common.{◌≡◌, ◌∙◌, sym, ap, arith, to_z, of_z}
use Rattle.std.specs.Prelude.{ℤ}
use Rattle.std.specs.Int.{w128}
use Rattle.std.proofs.lemmas.Int.{ints}
use Rattle.framehop_analysis.specs.EpilogueViewsAarch64.{carried}
use Rattle.framehop_analysis.proofs.EpilogueReadingAarch64.{offset_carried}
use Rattle.framehop_analysis.proofs.aarch64.instruction_analysis.epilogue.Restored.after.Goals as goal

pub returns-clause-fp : goal.returns-clause-fp
returns-clause-fp c =
    let same : to_z w128 (of_z w128 c.args.self.raise) ≡ c.args.self.raise = omega (arith, ints, c.requires.low, c.requires.high) in
    c.carried.ensures ∙ ap (λ (z : ℤ). carried z c.args.self.fp c.after-one.result.fp) same ∙ ap (carried c.args.self.raise c.args.self.fp) c.after-one.ensures.fp
    ∙ sym (offset_carried 29 c.args.kind c.args.self.raise c.args.self.fp)

pub returns-clause-lr : goal.returns-clause-lr
returns-clause-lr c =
    let same : to_z w128 (of_z w128 c.args.self.raise) ≡ c.args.self.raise = omega (arith, ints, c.requires.low, c.requires.high) in
    c.carried-2.ensures ∙ ap (λ (z : ℤ). carried z c.args.self.lr c.after-one.result.lr) same ∙ ap (carried c.args.self.raise c.args.self.lr) c.after-one.ensures.lr
    ∙ sym (offset_carried 30 c.args.kind c.args.self.raise c.args.self.lr)
