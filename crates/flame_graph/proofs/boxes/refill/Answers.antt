use Rattle.std.proofs.Common.{◌≡◌, ◌+◌, ◌-◌, ◌++◌, ◌∷◌, [], List, ℕ, take, replicate, ap, ◌∙◌, append_assoc, arith}
use Rattle.std.proofs.lemmas.List.{replicate-append-replicate}
use Rattle.flame_graph.proofs.boxes.refill.Goals as goal

pub loop-preserved : goal.loop-preserved
loop-preserved c =
    let n = c.loop.counter in
    let v = c.args.place in
    let kept = take c.args.kept c.args.ends.now.items in
    let one : replicate n v ++ v ∷ [] ≡ replicate (n + 1) v = replicate-append-replicate n 1 v in
    (c.in_ok-push.ensures {u = tt}).items ∙ ap (λ (xs : List ℕ). xs ++ v ∷ []) c.loop.invariant ∙ append_assoc kept (replicate n v) (v ∷ []) ∙ ap (λ (xs : List ℕ). kept ++ xs) one

pub returns : goal.returns
returns c =
    let count : c.loop.counter ≡ c.args.size - c.args.kept = omega arith in
    c.loop.invariant ∙ ap (λ (n : ℕ). take c.args.kept c.args.ends.now.items ++ replicate n c.args.place) count
