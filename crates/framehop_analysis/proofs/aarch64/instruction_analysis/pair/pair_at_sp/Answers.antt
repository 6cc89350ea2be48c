use Rattle.std.proofs.Common.{◌∙◌, sym, subst}
use Rattle.std.specs.Prelude.{ℤ}
use Rattle.framehop_analysis.specs.PairsAarch64.{IsPairWord}
use Rattle.framehop_analysis.proofs.PairBits.{accesses, kept}
use Rattle.framehop_analysis.proofs.aarch64.instruction_analysis.pair.pair_at_sp.Goals as goal

pub returns-clause-pair : goal.returns-clause-pair
returns-clause-pair c =
    let same = kept c.signed.result c.signed.ensures.low c.signed.ensures.high in
    subst (λ (z : ℤ). IsPairWord c.args.load c.args.word (record { mode = c.in_ok-mode.mode; offset_by_8 = z; first = c.rd.result; second = c.rt2.result })) (sym same)
    (accesses c.args.word c.args.load (record { mode = c.in_ok-mode.mode; offset_by_8 = c.signed.result; first = c.rd.result; second = c.rt2.result })
    c.ranges.word.fits (sym c.bit_22.ensures ∙ c.if-bit_22-load.false) (sym c.bit_31.ensures ∙ c.if-bit_31-ne1.false) (sym c.pair_class.ensures ∙ c.if-pair_class-ne20.false)
    (sym c.rn.ensures ∙ c.if-rn-ne-SP.false) (c.in_ok-mode.ensures.mode ∙ c.mode_field.ensures) (c.signed.ensures.bits ∙ c.imm7.ensures) c.rd.ensures c.rt2.ensures
    c.signed.ensures.low c.signed.ensures.high)
