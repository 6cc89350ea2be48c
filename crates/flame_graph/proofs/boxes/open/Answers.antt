use Rattle.std.proofs.Common.{◌≡◌, ◌+◌, ◌-◌, ◌++◌, [], map, ℕ, ap, ◌∙◌, arith}
use Rattle.flame_graph.specs.Boxes.{box_view}
use Rattle.flame_graph.specs.Opened.{opened}
use Rattle.flame_graph.specs.Stacks.{texts}
use Rattle.flame_graph.proofs.Steps.{open-one}
use Rattle.std.proofs.lemmas.List.{map-append}
use Rattle.flame_graph.proofs.boxes.open.Goals as goal

pub loop-depth-preserved : goal.loop-depth-preserved
loop-depth-preserved c = record {
  boxes = open-one c.args.names.now c.args.ends.now c.args.start c.loop-depth.depth c.saturating_sub.result (record { ref_ptr = (0, 0); now = [] })
      (map box_view c.args.boxes.now.items) (map box_view c.loop-depth.boxes.items) (map box_view c.push.new.self.items)
      (omega arith) c.loop-depth.auto.depth c.saturating_sub.ensures c.loop-depth.invariant.boxes
      (ap (map box_view) (c.in_ok-push.ensures {u = tt}).items ∙ map-append box_view c.loop-depth.boxes.items _);
  low = omega arith;
}

pub returns : goal.returns
returns c =
    let end : c.loop-depth.depth ≡ c.args.kept = omega arith in
    c.loop-depth.invariant.boxes
    ∙ ap (λ (d : ℕ). map box_view c.args.boxes.now.items ++ opened (texts c.args.names.now) c.args.ends.now c.args.start d) end
