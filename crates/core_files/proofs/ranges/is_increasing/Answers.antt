use Rattle.std.proofs.Common.{arith, refl}
use Rattle.std.specs.Prelude.{IsTrue, false}
use Rattle.core_files.proofs.SeenRanges.{seen-increasing, seen-not-increasing}
use Rattle.core_files.proofs.ranges.is_increasing.Goals as goal

pub returns-then-not-is_before : goal.returns-then-not-is_before
returns-then-not-is_before c =
    (λ h. cc, λ up. seen-not-increasing c.args.ranges.now c.loop-next.next _ (IsTrue false) (omega arith) (omega arith) (λ before. c.if-not-is_before.ensures.1 before) up)

pub returns : goal.returns
returns c = (λ h. seen-increasing c.args.ranges.now c.loop-next.next (omega arith) c.loop-next.invariant, λ h. refl)
