use Rattle.std.proofs.Common.{sym, subst, ℕ, List, [], ◌∷◌, ◌++◌, length}
use Rattle.framehop_x86_ways.specs.SearchViews.{IsRising}
use Rattle.framehop_x86_ways.specs.declared.search.Pending.{Pending}
use Rattle.framehop_x86_ways.proofs.Trails.{rising_and_one}
use Rattle.framehop_x86_ways.proofs.search.Search.push_trail.Goals as goal

pub returns-in-Some-clause-rising : goal.returns-in-Some-clause-rising
returns-in-Some-clause-rising c =
    let one : Pending = record { place = c.in-Some.place; executed = c.len-executed.result } in
    let most = c.len-executed.ensures.value in
    subst (λ (ps : List Pending). IsRising ps (length c.args.self.now.path.items)) (sym c.push.ensures.items)
    (subst (λ (n : ℕ). IsRising (c.args.self.now.pending.items ++ one ∷ []) n) most
    (rising_and_one c.args.self.now.pending.items one (subst (λ (n : ℕ). IsRising c.args.self.now.pending.items n) (sym most) c.requires.rising)))
