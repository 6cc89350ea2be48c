use Rattle.std.proofs.Common.{◌≡◌, ◌∙◌, ◌-◌, ◌+◌, sym, ap, arith, suc}
use Rattle.framehop_x86_ways.specs.FirstWay.{searched}
use Rattle.framehop_x86_ways.specs.SearchViews.{trails_in}
use Rattle.framehop_x86_ways.proofs.FirstWays.{found_next, left_next, searched_none, first_is_way}
use Rattle.framehop_x86_ways.proofs.finding.first_way.Goals as goal

pub returns-then-turn-clause-first : goal.returns-then-turn-clause-first
returns-then-turn-clause-first c =
    let next : 128 - c.loop-turns.turns ≡ suc (128 - (c.loop-turns.turns + 1)) = omega (arith, c.loop-turns-test.true) in
    let s = c.loop-turns.search in
    sym (found_next (128 - c.loop-turns.turns) (128 - (c.loop-turns.turns + 1)) c.args.text.now c.args.bounds s.seen.items (trails_in s)
    c.turn.new.self.path.items next c.if-turn.ensures.turn) ∙ c.loop-turns.invariant.rest

pub returns-then-turn-clause-way : goal.returns-then-turn-clause-way
returns-then-turn-clause-way c =
    let next : 128 - c.loop-turns.turns ≡ suc (128 - (c.loop-turns.turns + 1)) = omega (arith, c.loop-turns-test.true) in
    let s = c.loop-turns.search in
    first_is_way 128 c.args.text.now c.args.bounds c.args.at c.turn.new.self.path.items
    (sym c.loop-turns.invariant.rest ∙ found_next (128 - c.loop-turns.turns) (128 - (c.loop-turns.turns + 1)) c.args.text.now c.args.bounds s.seen.items (trails_in s)
    c.turn.new.self.path.items next c.if-turn.ensures.turn)

pub loop-turns-preserved : goal.loop-turns-preserved
loop-turns-preserved c =
    let next : 128 - c.loop-turns.turns ≡ suc (128 - (c.loop-turns.turns + 1)) = omega (arith, c.loop-turns-test.true) in
    let s = c.loop-turns.search in
    record {
      sound = c.if-turn.ensures.sound;
      few = omega (arith, c.if-turn.ensures.few, c.loop-turns.invariant.few);
      rest = sym (left_next (128 - c.loop-turns.turns) (128 - (c.loop-turns.turns + 1)) c.args.text.now c.args.bounds s.seen.items c.turn.new.self.seen.items
          (trails_in s) (trails_in c.turn.new.self) next c.if-turn.ensures.turn)
          ∙ c.loop-turns.invariant.rest;
    }

pub returns-clause-first : goal.returns-clause-first
returns-clause-first c =
    let over : 128 - c.loop-turns.turns ≡ 0 = omega (arith, c.loop-turns-test.false) in
    let s = c.loop-turns.search in
    sym (searched_none c.args.text.now c.args.bounds s.seen.items (trails_in s))
    ∙ sym (ap (λ n. searched n c.args.text.now c.args.bounds s.seen.items (trails_in s)) over) ∙ c.loop-turns.invariant.rest
