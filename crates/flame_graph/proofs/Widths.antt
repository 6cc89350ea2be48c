-- The widths of boxes by depth.
use Rattle.std.proofs.Common.{◌≡◌, ◌≢◌, ℕ, zero, suc, ◌+◌, ◌-◌, ◌<◌, ◌≤◌, true, false, List, [], ◌∷◌, ◌++◌, length, map, nat_lt, nat_eq, refl, sym, ap, ◌∙◌, arith, inl, inr}
use Rattle.std.proofs.lemmas.Bool.{cases_lt, eq-eqb}
use Rattle.std.proofs.lemmas.Bool.Decides.{nat_tests}
use Rattle.std.proofs.lemmas.List.Sums.{common_prefix_len-le, sum_by-append, sum_by-cons}
use Rattle.std.proofs.lemmas.List.Splits.{length-slice_split}
use Rattle.std.specs.Prelude.{◌==◌}
use Rattle.std.specs.Cmp.Lexicographic.{pointwise}
use Rattle.std.specs.List.{range_with_len, sum_by}
use Rattle.flame_graph.specs.declared.stack.FoldedStack.{FoldedStack}
use Rattle.flame_graph.specs.Stacks.{names, samples, shared}
use Rattle.flame_graph.specs.Boxes.{Shown, begun, box_of, boxes_from, boxes_of, run_of}
use Rattle.flame_graph.specs.Opened.{first_names}
use Rattle.flame_graph.specs.Sums.{deep_count, deep_samples, width_at, widths_at}
use Rattle.flame_graph.proofs.Runs.{same_run, shared-nil}
use Rattle.flame_graph.proofs.Steps.{no_test, run-other, run-shared, yes_test}

same-depth : (d e here : ℕ) (stack : FoldedStack) (rest : List FoldedStack) → e ≡ d
    → width_at d (box_of here stack rest e) ≡ stack.count + run_of d (names stack) rest
same-depth d e here stack rest same = rw (same, eq-eqb d d refl) refl

other-depth : (d e here : ℕ) (stack : FoldedStack) (rest : List FoldedStack) → e ≢ d → width_at d (box_of here stack rest e) ≡ 0
other-depth d e here stack rest apart = let test : (e == d) ≡ false = grind (arith, nat_tests) in rw test refl

-- no box of a range is at the depth
range-apart : (d a m here : ℕ) (stack : FoldedStack) (rest : List FoldedStack) → ((e : ℕ) → a ≤ e → e < a + m → e ≢ d)
    → widths_at d (map (box_of here stack rest) (range_with_len a m)) ≡ 0
range-apart d a zero here stack rest apart = refl
range-apart d a (suc m) here stack rest apart =
    let head = other-depth d a here stack rest (apart a (omega arith) (omega arith)) in
    let tail = range-apart d (a + 1) m here stack rest (λ e low high. apart e (omega arith) (omega arith)) in
    sum_by-cons (width_at d) (box_of here stack rest a) (map (box_of here stack rest) (range_with_len (a + 1) m)) ∙ rw (head, tail) refl

-- one box of a range is
range-within : (d j a m here : ℕ) (stack : FoldedStack) (rest : List FoldedStack) → d ≡ a + j → j < m
    → widths_at d (map (box_of here stack rest) (range_with_len a m)) ≡ stack.count + run_of d (names stack) rest
range-within d j a zero here stack rest at h = absurd (omega arith)
range-within d zero a (suc m) here stack rest at h =
    let head = same-depth d a here stack rest (omega arith) in
    let tail = range-apart d (a + 1) m here stack rest (λ e low high same. omega arith) in
    sum_by-cons (width_at d) (box_of here stack rest a) (map (box_of here stack rest) (range_with_len (a + 1) m)) ∙ (rw tail (omega (arith, head)))
range-within d (suc j) a (suc m) here stack rest at h =
    let head = other-depth d a here stack rest (λ same. omega arith) in
    let tail = range-within d j (a + 1) m here stack rest (omega arith) (omega arith) in
    sum_by-cons (width_at d) (box_of here stack rest a) (map (box_of here stack rest) (range_with_len (a + 1) m)) ∙ (rw tail (omega (arith, head)))

-- the boxes at a depth, with the run of the stack before, have the samples of all stacks with a name there
pub widths-runs : (d here : ℕ) (before : List (List ℕ)) (stacks : List FoldedStack)
    → widths_at d (boxes_from before here stacks) + run_of d before stacks ≡ deep_samples d stacks
widths-runs d here before [] = refl
widths-runs d here before (stack ∷ rest) =
    let kept = shared before (names stack) in
    let size = length (names stack) in
    let fits = common_prefix_len-le (pointwise nat_eq) before (names stack) in
    let after = here + stack.count in
    let split = sum_by-append (width_at d) (begun before here stack rest) (boxes_from (names stack) after rest) in
    let deep = sum_by-cons (deep_count d) stack rest in
    let more = widths-runs d after (names stack) rest in
    elim (cases_lt d kept) [
      | inl low ↦
          let none = range-apart d kept (size - kept) here stack rest (λ e from to same. omega arith) in
          let run = run-shared d before stack rest low in
          let count : deep_count d stack ≡ stack.count = rw (yes_test d size (omega arith)) refl in
          omega arith
      | inr high ↦ elim (cases_lt d size) [
        | inl in_names ↦
            let one = range-within d (d - kept) kept (size - kept) here stack rest (omega arith) (omega arith) in
            let run = run-other d before (stack ∷ rest) high in
            let count : deep_count d stack ≡ stack.count = rw (yes_test d size in_names) refl in
            omega arith
        | inr over ↦
            let none = range-apart d kept (size - kept) here stack rest (λ e from to same. omega arith) in
            let run = run-other d before (stack ∷ rest) high in
            let last = common_prefix_len-le (pointwise nat_eq) (names stack) (first_names rest) in
            let end = run-other d (names stack) rest (omega arith) in
            let count : deep_count d stack ≡ 0 = rw (no_test d size over) refl in
            omega arith
      ]
    ]

-- no run goes on without a stack before
run-none : (d : ℕ) (stacks : List FoldedStack) → run_of d [] stacks ≡ 0
run-none d [] = refl
run-none d (stack ∷ rest) = rw (no_test d 0 (omega arith)) refl

pub widths-deep : (d : ℕ) (stacks : List FoldedStack) → widths_at d (boxes_of stacks) ≡ deep_samples d stacks
widths-deep d stacks = let all = widths-runs d 0 [] stacks in let none = run-none d stacks in omega arith

-- each stack has a name
deep-all : (stacks : List FoldedStack) → deep_samples 0 stacks ≡ samples stacks
deep-all [] = refl
deep-all (stack ∷ rest) =
    let some = length-slice_split (λ byte. byte == 59) stack.text.items in
    let here : deep_count 0 stack ≡ stack.count = rw (yes_test 0 (length (names stack)) (omega arith)) refl in
    let more = deep-all rest in
    let left = sum_by-cons (deep_count 0) stack rest in
    let right = sum_by-cons (λ (s : FoldedStack). s.count) stack rest in
    omega arith

pub widths-all : (stacks : List FoldedStack) → widths_at 0 (boxes_of stacks) ≡ samples stacks
widths-all stacks = widths-deep 0 stacks ∙ deep-all stacks
