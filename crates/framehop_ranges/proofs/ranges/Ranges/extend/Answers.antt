-- A value that isn't the last has a start of its own; the last goes on.
use Rattle.std.proofs.Common.{arith, refl, sym, ap, ◌∙◌}
use Rattle.framehop_ranges.proofs.RangeLaws.{pushed, spread}
use Rattle.framehop_ranges.proofs.ranges.Ranges.extend.Goals as goal
use Rattle.framehop_ranges.proofs.ranges.Ranges.extend.Goals.{then-not-is_same+in_ok-push, else-not-is_same}

pub returns-clause-extends : goal.returns-clause-extends
returns-clause-extends g c =
    elim c.if-not-is_same.branch [
      | then-not-is_same+in_ok-push w ↦
          pushed c.args.self.now _ c.args.end c.args.value c.requires.sound (omega arith) (ap (λ p. p.before) w.self-is) refl c.requires.fits
          (λ same. let is = w.if-not-is_same.ensures.1 (rw c.deref.ensures.value at c.last_value.ensures ∙ sym same) in cc)
          (ap (λ p. p.entries.items) w.self-is ∙ w.in_ok-push.ensures.items)
      | else-not-is_same w ↦
          spread c.args.self.now _ c.args.end c.args.value c.requires.sound (omega arith) (ap (λ p. p.before) w.self-is) refl
          (ap (λ p. p.entries.items) w.self-is)
          (rw c.deref.ensures.value at (sym c.last_value.ensures ∙ w.if-not-is_same.ensures.0 refl))
    ]
