use Rattle.std.proofs.Common.{◌≡◌, ◌+◌, ◌-◌, ◌<◌, ◌≤◌, ◌++◌, suc, length, map, take, drop, replicate, get_or, ℕ, List, refl, sym, ap, ◌∙◌, arith, nat_eq, Bor}
use Rattle.std.specs.Cmp.Lexicographic.{pointwise}
use Rattle.std.proofs.lemmas.List.{drop_all, length-map, take_all}
use Rattle.std.proofs.lemmas.List.Sums.{common_prefix_len-le, sum_by_more}
use Rattle.std.proofs.lemmas.List.FromFn.{length-map-range_with_len}
use Rattle.flame_graph.specs.declared.stack.FoldedStack.{FoldedStack}
use Rattle.flame_graph.specs.Stacks.{names, names_of, samples, shared, texts}
use Rattle.flame_graph.specs.Boxes.{box_view, run_of}
use Rattle.flame_graph.specs.Opened.{ends_of, first_names, names_before, opened}
use Rattle.flame_graph.proofs.Runs.{shared-nil}
use Rattle.flame_graph.proofs.Steps.{at-end, drop-here, map-reverse, place-boxes, place-ends}
use Rattle.flame_graph.proofs.boxes.flame_boxes.Goals as goal

pub loop-place-init : goal.loop-place-init
loop-place-init c =
    let stacks = c.args.stacks.now in
    let size = length stacks in
    let all : length stacks ≤ size = omega arith in
    let none = drop_all size stacks all in
    record {
      boxes = rw (c.new-boxes.ensures.items, none) refl;
      ends = rw (c.new-ends.ensures.items, none) refl;
      kept = rw none (sym (shared-nil (names_before size stacks)));
      start = (c.in_ok-start.ensures {u = tt}).0 ∙ ap samples (sym (take_all size stacks all));
    }

pub open-requires-clause-ends : goal.open-requires-clause-ends
open-requires-clause-ends c =
    let stacks = c.args.stacks.now in
    let k = c.loop-place.place - 1 in
    let stack = c.index-stacks-place.result in
    let after = c.loop-place.start in
    let here = after - stack.count in
    let lent = c.as_slice-names.result.now in
    let at : c.loop-place.place ≡ suc k = omega arith in
    let next : c.loop-place.place ≡ k + 1 = omega arith in
    let inside : k < length stacks = omega arith in
    let is = c.index-stacks-place.is in
    let named : texts lent ≡ names stack =
    ap texts c.as_slice-names.ensures.value ∙ c.in_ok-list.ensures {u = tt} ∙ ap names_of c.deref.ensures.value in
    let sum = sum_by_more (λ (s : FoldedStack). s.count) stacks k stack inside in
    let counted : (get_or stacks k stack).count ≡ stack.count = ap (λ (s : FoldedStack). s.count) (sym is) in
    let total : after ≡ samples (take (k + 1) stacks) = c.loop-place.invariant.start ∙ ap (λ (n : ℕ). samples (take n stacks)) next in
    let fits : after ≡ here + stack.count = omega arith in
    let size = length-map lent (λ (text : Bor (List ℕ)). text.now) in
    let cut = c.in_ok-refill.ensures {u = tt} ∙ ap (λ (n : ℕ). take c.loop-place.kept c.loop-place.ends.items ++ replicate (n - c.loop-place.kept) after) (sym size) in
    let ends = place-ends stacks c.loop-place.place k here after c.loop-place.kept stack c.loop-place.ends.items c.refill.new.ends.items (texts lent)
    at inside is named fits c.loop-place.invariant.ends c.loop-place.invariant.kept cut in
    ap length c.deref-in-loop-place.ensures.value
    ∙ ap length ends
    ∙ ap (λ (xs : List FoldedStack). length (ends_of here xs)) (drop-here stacks k stack inside is)
    ∙ length-map-range_with_len (λ d. here + (stack.count + run_of d (names stack) (drop (k + 1) stacks))) 0 (length (names stack))
    ∙ ap length (sym named)
    ∙ size

pub open-requires-clause-kept : goal.open-requires-clause-kept
open-requires-clause-kept c =
    let lent = c.as_slice-names.result.now in
    let size = length-map lent (λ (text : Bor (List ℕ)). text.now) in
    let fits = common_prefix_len-le (pointwise nat_eq) (names_before (c.loop-place.place - 1) c.args.stacks.now) (texts lent) in
    let kept = c.in_ok-kept.ensures {u = tt} in
    omega arith

pub loop-place-preserved : goal.loop-place-preserved
loop-place-preserved c =
    let stacks = c.args.stacks.now in
    let k = c.loop-place.place - 1 in
    let stack = c.index-stacks-place.result in
    let after = c.loop-place.start in
    let here = after - stack.count in
    let lent = c.as_slice-names.result.now in
    let at : c.loop-place.place ≡ suc k = omega arith in
    let next : c.loop-place.place ≡ k + 1 = omega arith in
    let inside : k < length stacks = omega arith in
    let is = c.index-stacks-place.is in
    let named : texts lent ≡ names stack =
    ap texts c.as_slice-names.ensures.value ∙ c.in_ok-list.ensures {u = tt} ∙ ap names_of c.deref.ensures.value in
    let sum = sum_by_more (λ (s : FoldedStack). s.count) stacks k stack inside in
    let counted : (get_or stacks k stack).count ≡ stack.count = ap (λ (s : FoldedStack). s.count) (sym is) in
    let total : after ≡ samples (take (k + 1) stacks) = c.loop-place.invariant.start ∙ ap (λ (n : ℕ). samples (take n stacks)) next in
    let fits : after ≡ here + stack.count = omega arith in
    let size = length-map lent (λ (text : Bor (List ℕ)). text.now) in
    let cut = c.in_ok-refill.ensures {u = tt} ∙ ap (λ (n : ℕ). take c.loop-place.kept c.loop-place.ends.items ++ replicate (n - c.loop-place.kept) after) (sym size) in
    let ends = place-ends stacks c.loop-place.place k here after c.loop-place.kept stack c.loop-place.ends.items c.refill.new.ends.items (texts lent)
    at inside is named fits c.loop-place.invariant.ends c.loop-place.invariant.kept cut in
    let shares = c.in_ok-kept.ensures {u = tt} in
    let old = map box_view c.loop-place.boxes.items in
    let new = c.in_ok-open.ensures {u = tt}
    ∙ ap (λ (e : List ℕ). old ++ opened (texts lent) e here c.in_ok-kept.kept) c.deref-in-loop-place.ensures.value
    ∙ ap (λ (n : ℕ). old ++ opened (texts lent) c.refill.new.ends.items here n) shares in
    record {
      boxes = place-boxes stacks c.loop-place.place k here after stack old (map box_view c.open.new.boxes.items) c.refill.new.ends.items (texts lent)
          at inside is named fits c.loop-place.invariant.boxes ends new;
      ends = ends;
      kept = shares ∙ ap (λ (t : List (List ℕ)). shared (names_before k stacks) t) (named ∙ sym (ap first_names (drop-here stacks k stack inside is)));
      start = omega arith;
    }

pub returns : goal.returns
returns c =
    let end : c.loop-place.place ≡ 0 = omega arith in
    ap (map box_view) c.reverse.ensures.items
    ∙ map-reverse box_view c.loop-place.boxes.items
    ∙ at-end c.args.stacks.now c.loop-place.place c.loop-place.start (map box_view c.loop-place.boxes.items) end c.loop-place.invariant.start c.loop-place.invariant.boxes
