-- What is restored has one rule.
use Rattle.std.proofs.Common.{◌≡◌, ◌∙◌, ℕ, ◌*◌, refl, ap, arith, Option, Some, None}
use Rattle.std.specs.Prelude.{ℤ, pos, ◌*ℤ◌}
use Rattle.std.proofs.lemmas.Int.{ints}
use Rattle.framehop_rules.specs.declared.aarch64.unwind_rule.UnwindRuleAarch64.{UnwindRuleAarch64}
use Rattle.framehop_rules.specs.declared.aarch64.unwind_rule.UnwindRuleAarch64.TheVariants.{NoOp, OffsetSp, OffsetSpAndRestoreLr, OffsetSpAndRestoreFpAndLr}
use Rattle.framehop_analysis.specs.EpilogueAarch64.{IsRuleFor, FieldsFit}

none_or_some : (offset : Option ℤ) (bytes : ℤ) → offset ≡ None → offset ≡ Some bytes → ⊥
none_or_some offset bytes none some = cc

same_units : (one other : ℕ) (raised : ℤ) → raised ≡ pos (16 * one) → raised ≡ pos (16 * other) → one ≡ other
same_units one other raised is other_is = omega (arith, ints, is, other_is)

same_offset : (one other : ℤ) (offset : Option ℤ) → offset ≡ Some (pos 8 *ℤ one) → offset ≡ Some (pos 8 *ℤ other) → one ≡ other
same_offset one other offset is other_is = let bytes : pos 8 *ℤ one ≡ pos 8 *ℤ other = cc in omega (arith, ints, bytes)

pub one_rule : (raised : ℤ) (fp lr : Option ℤ) (one other : UnwindRuleAarch64) → FieldsFit one → FieldsFit other → IsRuleFor raised fp lr one → IsRuleFor raised fp lr other → one ≡ other
one_rule raised fp lr NoOp other fits other_fits is other_is = by other other_fits other_is
  where
    by : (other : UnwindRuleAarch64) → FieldsFit other → IsRuleFor raised fp lr other → NoOp ≡ other
    by NoOp f i = refl
    by (OffsetSp x) f i = absurd (omega (arith, ints, is.0, i.0, f.0))
    by (OffsetSpAndRestoreLr x y) f i = absurd (none_or_some lr (pos 8 *ℤ y) is.2 i.2)
    by (OffsetSpAndRestoreFpAndLr x y z) f i = absurd (none_or_some lr (pos 8 *ℤ z) is.2 i.2)
    by rest f i = absurd i
one_rule raised fp lr (OffsetSp x) other fits other_fits is other_is = by other other_fits other_is
  where
    by : (other : UnwindRuleAarch64) → FieldsFit other → IsRuleFor raised fp lr other → OffsetSp x ≡ other
    by NoOp f i = absurd (omega (arith, ints, is.0, i.0, fits.0))
    by (OffsetSp x2) f i = ap OffsetSp (same_units x x2 raised is.0 i.0)
    by (OffsetSpAndRestoreLr x2 y) f i = absurd (none_or_some lr (pos 8 *ℤ y) is.2 i.2)
    by (OffsetSpAndRestoreFpAndLr x2 y z) f i = absurd (none_or_some lr (pos 8 *ℤ z) is.2 i.2)
    by rest f i = absurd i
one_rule raised fp lr (OffsetSpAndRestoreLr x y) other fits other_fits is other_is = by other other_fits other_is
  where
    by : (other : UnwindRuleAarch64) → FieldsFit other → IsRuleFor raised fp lr other → OffsetSpAndRestoreLr x y ≡ other
    by NoOp f i = absurd (none_or_some lr (pos 8 *ℤ y) i.2 is.2)
    by (OffsetSp x2) f i = absurd (none_or_some lr (pos 8 *ℤ y) i.2 is.2)
    by (OffsetSpAndRestoreLr x2 y2) f i =
        ap (λ u. OffsetSpAndRestoreLr u y) (same_units x x2 raised is.0 i.0) ∙ ap (OffsetSpAndRestoreLr x2) (same_offset y y2 lr is.2 i.2)
    by (OffsetSpAndRestoreFpAndLr x2 y2 z) f i = absurd (none_or_some fp (pos 8 *ℤ y2) is.1 i.1)
    by rest f i = absurd i
one_rule raised fp lr (OffsetSpAndRestoreFpAndLr x y z) other fits other_fits is other_is = by other other_fits other_is
  where
    by : (other : UnwindRuleAarch64) → FieldsFit other → IsRuleFor raised fp lr other → OffsetSpAndRestoreFpAndLr x y z ≡ other
    by NoOp f i = absurd (none_or_some fp (pos 8 *ℤ y) i.1 is.1)
    by (OffsetSp x2) f i = absurd (none_or_some fp (pos 8 *ℤ y) i.1 is.1)
    by (OffsetSpAndRestoreLr x2 y2) f i = absurd (none_or_some fp (pos 8 *ℤ y) i.1 is.1)
    by (OffsetSpAndRestoreFpAndLr x2 y2 z2) f i =
        ap (λ u. OffsetSpAndRestoreFpAndLr u y z) (same_units x x2 raised is.0 i.0)
        ∙ ap (λ o. OffsetSpAndRestoreFpAndLr x2 o z) (same_offset y y2 fp is.1 i.1) ∙ ap (OffsetSpAndRestoreFpAndLr x2 y2) (same_offset z z2 lr is.2 i.2)
    by rest f i = absurd i
one_rule raised fp lr rest other fits other_fits is other_is = absurd is
