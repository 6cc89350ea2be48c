use Rattle.std.proofs.Common.{◌∙◌, ◌≤◌, ap, arith, ℕ, List, [], ◌∷◌, ◌++◌, length, length-append, Option}
use Rattle.framehop_x86_ways.specs.Places.{place_after, place_branched_to}
use Rattle.framehop_x86_ways.specs.FirstWay.{Trail, with_trail}
use Rattle.framehop_x86_ways.specs.SearchViews.{trails_of, trails_in}
use Rattle.framehop_x86_ways.specs.declared.executed.Executed.{Executed}
use Rattle.framehop_x86_ways.specs.declared.search.Search.{Search}
use Rattle.framehop_x86_ways.proofs.Trails.{rising_more, trails_kept}
use Rattle.framehop_x86_ways.proofs.search.Search.go_on.Goals as goal

pub push_trail-requires-clause-rising : goal.push_trail-requires-clause-rising
push_trail-requires-clause-rising c =
    let more : length c.args.self.now.path.items ≤ length c.push-2.new.self.items =
    omega (arith, ap length c.push-2.ensures.items, length-append c.args.self.now.path.items (c.args.one ∷ [])) in
    rising_more c.args.self.now.pending.items (length c.args.self.now.path.items) (length c.push-2.new.self.items) more c.requires.rising

pub returns-clause-trails : goal.returns-clause-trails
returns-clause-trails c =
    let pending = c.args.self.now.pending.items in
    let pushed : List Executed = c.args.self.now.path.items ++ c.args.one ∷ [] in
    let path = c.push-2.ensures.items in
    let same = ap (λ (s : Search). s.path.items) c.push_trail.ensures.rest in
    let kept = trails_kept c.args.self.now.path.items c.args.one pending c.requires.rising in
    let first =
    c.push_trail.ensures.trails ∙ ap (λ (p : List Executed). with_trail p c.place_branched_to.result (trails_of p pending)) path
    ∙ ap (λ (o : Option ℕ). with_trail pushed o (trails_of pushed pending)) c.place_branched_to.ensures
    ∙ ap (λ (ts : List Trail). with_trail pushed (place_branched_to c.args.one) ts) kept in
    c.push_trail-2.ensures.trails ∙ ap (λ (p : List Executed). with_trail p c.place_after.result (trails_in c.push_trail.new.self)) (same ∙ path)
    ∙ ap (λ (o : Option ℕ). with_trail pushed o (trails_in c.push_trail.new.self)) c.place_after.ensures
    ∙ ap (λ (ts : List Trail). with_trail pushed (place_after c.args.bounds c.args.one) ts) first
