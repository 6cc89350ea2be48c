use Rattle.std.proofs.Common.{◌≡◌, ◌-◌, ◌*◌, ◌<◌, ◌≤◌, ◌^◌}
use Rattle.rust_names.specs.declared.punycode.TheConstants.{TURNS}
use Rattle.rust_names.specs.Punycode.{scaled}
use Rattle.rust_names.proofs.punycode.scale.Given as goal

-- the turns that are left give what all would give
abbrev pub invariant-loop-turn : goal.invariant-loop-turn
invariant-loop-turn l = record {
  same : scaled (TURNS - l.turn) l.place l.delta ≡ scaled TURNS 0 l.fn.spread;
  near : l.place ≤ 36 * l.turn;
  small : l.delta < 2 ^ 48;
}
