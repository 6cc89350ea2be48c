use Rattle.std.proofs.Common.{◌-◌, drop, List, [], ℕ, length-drop, arith, Bor}
use Rattle.std.proofs.lemmas.List.Sums.{common_prefix_len-le, common_prefix_len-drop_no, common_prefix_len-drop_yes}
use Rattle.flame_graph.proofs.LentNames.{same_now, not_false, not_true, shared-texts}
use Rattle.flame_graph.proofs.names.shared_count.Goals as goal

pub returns-then-ne : goal.returns-then-ne
returns-then-ne c =
    let i = c.loop-i.i in
    let none : Bor (List ℕ) = record { ref_ptr = (0, 0); now = [] } in
    let end = common_prefix_len-drop_no same_now c.args.left.now c.args.right.now i none none (omega arith) (omega arith)
    (not_true _ (c.if-ne.ensures {u = tt})) in
    omega arith

pub loop-i-preserved : goal.loop-i-preserved
loop-i-preserved c =
    let i = c.loop-i.i in
    let none : Bor (List ℕ) = record { ref_ptr = (0, 0); now = [] } in
    let more = common_prefix_len-drop_yes same_now c.args.left.now c.args.right.now i none none (omega arith) (omega arith)
    (not_false _ (c.if-ne.ensures {u = tt})) in
    omega arith

pub returns : goal.returns
returns c =
    let left = drop c.loop-i.i c.args.left.now in
    let right = drop c.loop-i.i c.args.right.now in
    let fits = common_prefix_len-le same_now left right in
    let low = length-drop c.loop-i.i c.args.left.now in
    let lower = length-drop c.loop-i.i c.args.right.now in
    omega arith

pub loop-i-init : goal.loop-i-init
loop-i-init c =
    let all = shared-texts c.args.left.now c.args.right.now in
    omega arith
