-- A pair that is below the register is behind those before it, and those after it are above.
use Rattle.std.proofs.Common.{◌≡◌, ◌-◌, ◌<◌, suc, length, take, subst, arith}
use Rattle.dwarf_frame_rows.specs.RuleList.{IsAbove}
use Rattle.dwarf_frame_rows.proofs.RuleMaps.{above-up_to}
use Rattle.dwarf_frame_rows.proofs.rule_map.place_from_end.Goals as goal

pub returns-then-last-register-2 : goal.returns-then-last-register-2
returns-then-last-register-2 g c =
    let pairs = c.args.pairs.now in
    let register = c.args.register.0 in
    let last = c.index-pairs-index.result in
    let within : c.above.index - 1 < length pairs = omega (arith, c.above-test.true, c.above.invariant.within) in
    let same : suc (c.above.index - 1) ≡ c.above.index = omega (arith, c.above-test.true) in
    λ up. (
      c.above.invariant.within,
      subst (λ n. IsAbove register (take n pairs)) same (above-up_to register (c.above.index - 1) pairs last up within c.if-last-register-2.true),
      c.above.invariant.below up,
    )
