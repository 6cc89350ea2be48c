-- Each comparison halves what is left, and tells of all pairs on one side of it.
use Rattle.std.proofs.Common.{◌≡◌, ◌+◌, ◌-◌, ◌/◌, ◌<◌, length, drop, subst, sym, ◌∙◌, arith}
use Rattle.dwarf_frame_rows.specs.RuleList.{IsBelow}
use Rattle.dwarf_frame_rows.proofs.Places.{IsHalved, above-middle, all-left, below-middle, enough-compared, few-compared, found-middle, half-left, none-below, some-compared}
use Rattle.dwarf_frame_rows.proofs.rule_map.place_counted.Goals as goal

pub halves-init : goal.halves-init
halves-init g c = record {
  within = omega arith;
  above = λ up. tt;
  below = λ up. subst (λ n. IsBelow c.args.register.0 (drop n c.args.pairs.now)) (omega arith) (none-below c.args.register.0 c.args.pairs.now);
  halved = all-left (length c.args.pairs.now) c.args.steps.now;
}

pub halves-preserved-in-Less : goal.halves-preserved-in-Less
halves-preserved-in-Less g c =
    let known = c.halves.invariant in
    let within : c.halves.low + c.halves.len / 2 < length c.args.pairs.now = omega (arith, known.within, c.halves-test.true) in
    let same : c.halves.low + c.halves.len ≡ c.halves.low + c.halves.len / 2 + 1 + (c.halves.len - (c.halves.len / 2 + 1)) = omega (arith, c.halves-test.true) in
    record {
      within = omega (arith, known.within, c.halves-test.true);
      above = above-middle c.args.register.0 c.args.pairs.now c.halves.low (c.halves.len / 2) _ within (sym c.cmp.ensures ∙ c.in-Less.is);
      below = λ up. subst (λ n. IsBelow c.args.register.0 (drop n c.args.pairs.now)) same (known.below up);
      halved = half-left (length c.args.pairs.now) c.args.steps.now c.halves.steps c.tick.new.self c.halves.len (c.halves.len - (c.halves.len / 2 + 1)) c.tick.ensures c.halves-test.true (omega arith) (omega (arith, c.halves-test.true)) known.halved;
    }

pub halves-preserved : goal.halves-preserved
halves-preserved g c =
    let known = c.halves.invariant in
    let within : c.halves.low + c.halves.len / 2 < length c.args.pairs.now = omega (arith, known.within, c.halves-test.true) in
    record {
      within = omega (arith, known.within);
      above = known.above;
      below = below-middle c.args.register.0 c.args.pairs.now c.halves.low (c.halves.len / 2) _ within (sym c.cmp.ensures ∙ c.in-Greater.is);
      halved = half-left (length c.args.pairs.now) c.args.steps.now c.halves.steps c.tick.new.self c.halves.len (c.halves.len / 2) c.tick.ensures c.halves-test.true (omega arith) (omega arith) known.halved;
    }

pub returns-in-Equal-clause-place : goal.returns-in-Equal-clause-place
returns-in-Equal-clause-place g c =
    let within : c.halves.low + c.halves.len / 2 < length c.args.pairs.now = omega (arith, c.halves.invariant.within, c.halves-test.true) in
    λ up. found-middle c.args.register.0 c.args.pairs.now c.halves.low (c.halves.len / 2) _ within (sym c.cmp.ensures ∙ c.in-Equal.is)

pub returns-in-Equal-clause-few : goal.returns-in-Equal-clause-few
returns-in-Equal-clause-few g c = λ k h.
    few-compared (length c.args.pairs.now) c.args.steps.now c.tick.new.self (c.halves.len / 2) k
    (half-left (length c.args.pairs.now) c.args.steps.now c.halves.steps c.tick.new.self c.halves.len (c.halves.len / 2) c.tick.ensures c.halves-test.true (omega arith) (omega arith) c.halves.invariant.halved) h

pub returns-in-Equal-clause-some : goal.returns-in-Equal-clause-some
returns-in-Equal-clause-some g c = λ some. omega (arith, c.halves.invariant.halved.counted, c.tick.ensures)

pub returns-clause-place : goal.returns-clause-place
returns-clause-place g c =
    let known = c.halves.invariant in
    let same : c.halves.low + c.halves.len ≡ c.halves.low = omega (arith, c.halves-test.false) in
    λ up. (omega (arith, known.within), known.above up, subst (λ n. IsBelow c.args.register.0 (drop n c.args.pairs.now)) same (known.below up))

pub returns-clause-few : goal.returns-clause-few
returns-clause-few g c = λ k h. few-compared (length c.args.pairs.now) c.args.steps.now c.halves.steps c.halves.len k c.halves.invariant.halved h

pub returns-clause-some : goal.returns-clause-some
returns-clause-some g c = λ some.
    let none : c.halves.len ≡ 0 = omega (arith, c.halves-test.false) in
    some-compared (length c.args.pairs.now) c.args.steps.now c.halves.steps (subst (λ n. IsHalved (length c.args.pairs.now) c.args.steps.now c.halves.steps n) none c.halves.invariant.halved) some

pub returns-clause-enough : goal.returns-clause-enough
returns-clause-enough g c = λ absent k h.
    let none : c.halves.len ≡ 0 = omega (arith, c.halves-test.false) in
    enough-compared (length c.args.pairs.now) c.args.steps.now c.halves.steps k (subst (λ n. IsHalved (length c.args.pairs.now) c.args.steps.now c.halves.steps n) none c.halves.invariant.halved) h
