use Rattle.std.proofs.Common.{◌≡◌, ◌∙◌, sym, ap, subst, ℕ, List, [], ◌∷◌, ◌++◌, length}
use Rattle.std.proofs.lemmas.List.{length-take-le}
use Rattle.framehop_x86_ways.specs.SearchViews.{IsRising, trails_of, trails_with}
use Rattle.framehop_x86_ways.specs.declared.executed.Executed.{Executed}
use Rattle.framehop_x86_ways.specs.declared.search.Pending.{Pending}
use Rattle.framehop_x86_ways.proofs.Trails.{rising_before, trails_taken}
use Rattle.framehop_x86_ways.proofs.search.Search.take_trail.Goals as goal

pub returns-clause-trail : goal.returns-clause-trail
returns-clause-trail c =
    let path = c.args.self.now.path.items in
    let one = c.in_ok-latest.latest in
    let items : c.args.self.now.pending.items ≡ c.pop.new.self.items ++ one ∷ [] = c.in_ok-latest.ensures.items in
    let rising = subst (λ (ps : List Pending). IsRising ps (length path)) items c.requires in
    ap (trails_of path) items ∙ trails_taken path c.pop.new.self.items one rising
    ∙ ap (λ (xs : List Executed). trails_with one.place xs c.pop.new.self.items) (sym c.truncate.ensures.items)

pub returns-clause-rising : goal.returns-clause-rising
returns-clause-rising c =
    let path = c.args.self.now.path.items in
    let one = c.in_ok-latest.latest in
    let items : c.args.self.now.pending.items ≡ c.pop.new.self.items ++ one ∷ [] = c.in_ok-latest.ensures.items in
    let rising = subst (λ (ps : List Pending). IsRising ps (length path)) items c.requires in
    let to = rising_before c.pop.new.self.items one (length path) rising in
    let size : one.executed ≡ length c.truncate.new.self.items =
    sym (length-take-le one.executed path to.within) ∙ ap length (sym c.truncate.ensures.items) in
    subst (λ (n : ℕ). IsRising c.pop.new.self.items n) size to.before
