use Rattle.std.proofs.Common.{◌≡◌, arith, refl, sym, subst, to_z, of_z}
use Rattle.std.specs.Prelude.{ℤ}
use Rattle.std.specs.Int.{w128}
use Rattle.std.proofs.lemmas.Int.{ints}
use Rattle.framehop_analysis.specs.FunctionEndsAarch64.{IsEndWord}
use Rattle.framehop_analysis.proofs.EndWords.{checked_left, left_by_word, left_by_check_alone}
use Rattle.framehop_analysis.proofs.aarch64.instruction_analysis.epilogue.is_left.Goals as goal

pub returns-then-is_end_word : goal.returns-then-is_end_word
returns-then-is_end_word c =
    let same : to_z w128 (of_z w128 c.args.raise) ≡ c.args.raise = omega (arith, ints) in (
      λ test. left_by_word c.args.bytes.now c.in-Some.field-0-1.now c.args.raise c.in-Some.word c.in-Some.ensures.bytes
          (subst (λ (z : ℤ). IsEndWord c.in-Some.word z) same (c.is_end_word.ensures.0 c.if-is_end_word.true)),
      λ left. refl,
    )

pub returns-else-is_end_word : goal.returns-else-is_end_word
returns-else-is_end_word c =
    let same : to_z w128 (of_z w128 c.args.raise) ≡ c.args.raise = omega (arith, ints) in (
      λ test. checked_left c.args.bytes.now c.args.raise c.auth_tail_call_words.result c.is_some.result c.is_some.ensures test c.auth_tail_call_words.ensures.words,
      λ left. left_by_check_alone c.args.bytes.now c.in-Some.field-0-1.now c.args.raise c.in-Some.word c.auth_tail_call_words.result c.is_some.result c.is_some.ensures c.auth_tail_call_words.ensures.none
          c.in-Some.ensures.bytes c.in-Some.ensures.fits
          (λ ends. let e = c.is_end_word.ensures.1 (subst (λ (z : ℤ). IsEndWord c.in-Some.word z) (sym same) ends) in let f = c.if-is_end_word.false in cc) left,
    )
