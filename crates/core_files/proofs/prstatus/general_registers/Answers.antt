use Rattle.std.proofs.Common.{ℕ, ◌<◌, ◌≢◌, arith, ap, ◌∙◌, length, length-set, get_or-set_other, get_or-set_same, below_more}
use Rattle.core_files.specs.Bytes.{each_from}
use Rattle.core_files.specs.Prstatus.{pr_reg}
use Rattle.core_files.proofs.Elements.{each-is}
use Rattle.core_files.proofs.prstatus.general_registers.Goals as goal

pub loop-number-preserved : goal.loop-number-preserved
loop-number-preserved c = record {
  all = length-set c.loop-number.regs c.loop-number.number c.register.result ∙ c.loop-number.invariant.all;
  read = below_more _ _
      (λ k h. let ne : k ≢ c.loop-number.number = omega arith in rw get_or-set_other (c.loop-number.invariant.read k h))
      (let lt : c.loop-number.number < length c.loop-number.regs = omega (arith, c.loop-number.invariant.all, c.loop-number-test.true) in rw get_or-set_same c.register.ensures);
}

pub returns : goal.returns
returns c =
    let known = c.loop-number.invariant in
    each-is (pr_reg c.args.descriptor.now) c.loop-number.regs 0 0 (λ k h. known.read k (omega (arith, known.all)) ∙ ap (pr_reg c.args.descriptor.now) (omega arith))
    ∙ ap (λ (n : ℕ). each_from (pr_reg c.args.descriptor.now) 0 n) known.all
