use Rattle.std.proofs.Common.{◌≡◌, ◌-◌, ◌≤◌, length}
use Rattle.framehop_x86_ways.specs.FirstWay.{searched, way_in}
use Rattle.framehop_x86_ways.specs.SearchViews.{trails_in, IsSound}
use Rattle.framehop_x86_ways.proofs.finding.first_way.Given as goal

abbrev pub invariant-loop-turns : goal.invariant-loop-turns
invariant-loop-turns l = record {
  sound : IsSound l.search.seen.items l.search.path.items l.search.pending.items;
  few : length l.search.seen.items ≤ l.turns;
  rest : searched (128 - l.turns) l.text l.bounds l.search.seen.items (trails_in l.search) ≡ way_in 128 l.text l.bounds l.at;
}
