-- One stack before others: where its boxes end, and which of them begin with it.
use Rattle.std.proofs.Common.{◌≡◌, ℕ, suc, ◌+◌, ◌-◌, ◌<◌, ◌≤◌, true, false, List, [], ◌∷◌, ◌++◌, length, map, take, drop, reverse, replicate, get_or, nat_lt, refl, sym, ap, ◌∙◌, arith, Bor, append_assoc}
use Rattle.std.proofs.lemmas.Bool.Decides.{nat_tests}
use Rattle.std.proofs.lemmas.List.{drop_more, get_or-map, length-map, map-append, reverse-append, reverse-reverse}
use Rattle.std.proofs.lemmas.Option.{slice_get_read}
use Rattle.std.proofs.lemmas.List.FromFn.{get_or-map-range_with_len}
use Rattle.std.proofs.lemmas.List.Sums.{common_prefix_len-le}
use Rattle.std.specs.Cmp.Lexicographic.{pointwise}
use Rattle.std.specs.Prelude.{nat_eq}
use Rattle.flame_graph.specs.declared.stack.FoldedStack.{FoldedStack}
use Rattle.flame_graph.specs.Stacks.{names, samples, shared, texts}
use Rattle.flame_graph.specs.Boxes.{Shown, begun, box_of, boxes_from, boxes_of, run_of}
use Rattle.flame_graph.specs.Opened.{box_between, ends_of, first_names, names_at, names_before, opened}
use Rattle.flame_graph.proofs.Ranges.{map_same, refilled, reverse_down}
use Rattle.flame_graph.proofs.Runs.{same_run, shared-nil}

pub yes_test : (d s : ℕ) → d < s → nat_lt d s ≡ true
yes_test d s h = grind (arith, nat_tests)

pub no_test : (d s : ℕ) → s ≤ d → nat_lt d s ≡ false
no_test d s h = grind (arith, nat_tests)

-- a run goes on over a stack that shares the names
pub run-shared : (d : ℕ) (xs : List (List ℕ)) (next : FoldedStack) (rest : List FoldedStack) → d < shared xs (names next)
    → run_of d xs (next ∷ rest) ≡ next.count + run_of d (names next) rest
run-shared d xs next rest h =
    rw (yes_test d (shared xs (names next)) h, same_run d xs (names next) rest h) refl

-- and ends before one that doesn't
pub run-other : (d : ℕ) (xs : List (List ℕ)) (stacks : List FoldedStack) → shared xs (first_names stacks) ≤ d → run_of d xs stacks ≡ 0
run-other d xs [] h = refl
run-other d xs (next ∷ rest) h = rw (no_test d (shared xs (names next)) h) refl

-- the boxes of a stack that the one after it is in end where those of that one end, and the others after its samples
pub ends-step : (here after : ℕ) (stack : FoldedStack) (rest : List FoldedStack) → after ≡ here + stack.count
    → ends_of here (stack ∷ rest) ≡ take (shared (names stack) (first_names rest)) (ends_of after rest)
    ++ replicate (length (names stack) - shared (names stack) (first_names rest)) after
ends-step here after stack [] sum =
    let none : shared (names stack) [] ≡ 0 = shared-nil (names stack) in
    refilled (λ d. here + (stack.count + run_of d (names stack) [])) (λ d. after) after (shared (names stack) []) 0 0 (length (names stack))
    (omega arith) (omega arith) (λ d low high. omega arith) (λ d low. omega arith)
ends-step here after stack (next ∷ rest) sum =
    let fits = common_prefix_len-le (pointwise nat_eq) (names stack) (names next) in
    refilled (λ d. here + (stack.count + run_of d (names stack) (next ∷ rest))) (λ d. after + (next.count + run_of d (names next) rest)) after
    (shared (names stack) (names next)) 0 (length (names next)) (length (names stack)) (fits.1) (fits.0)
    (λ d low high. rw (run-shared d (names stack) next rest (omega arith)) (omega arith))
    (λ d low. rw (run-other d (names stack) (next ∷ rest) (omega arith)) (omega arith))

-- the boxes that are opened of a stack are those that begin with it
pub opened-begun : (before : List (List ℕ)) (here : ℕ) (stack : FoldedStack) (rest : List FoldedStack)
    → opened (names stack) (ends_of here (stack ∷ rest)) here (shared before (names stack)) ≡ reverse (begun before here stack rest)
opened-begun before here stack rest =
    let texts = names stack in
    let kept = shared before texts in
    let width : ℕ → ℕ = λ d. stack.count + run_of d texts rest in
    let ends = ends_of here (stack ∷ rest) in
    let made : ℕ → ℕ → Shown = λ d w. record { depth = d; start = here; width = w; name = get_or texts d [] } in
    let one : (d : ℕ) → kept ≤ d → d < kept + (length texts - kept) → get_or ends d 0 - here ≡ width d =
    λ d low high. rw (get_or-map-range_with_len (λ e. here + (stack.count + run_of e texts rest)) 0 (length texts) d d 0 (omega arith) (omega arith)) (omega arith) in
    ap reverse (map_same (box_between texts ends here) (box_of here stack rest) kept (length texts - kept)
    (λ d low high. ap (made d) (one d low high)))

-- the boxes with those of one stack more
pub boxes-step : (before : List (List ℕ)) (here after : ℕ) (stack : FoldedStack) (rest : List FoldedStack) → after ≡ here + stack.count
    → reverse (boxes_from before here (stack ∷ rest))
    ≡ reverse (boxes_from (names stack) after rest) ++ opened (names stack) (ends_of here (stack ∷ rest)) here (shared before (names stack))
boxes-step before here after stack rest sum =
    rw sum (reverse-append (begun before here stack rest) (boxes_from (names stack) (here + stack.count) rest)
    ∙ ap (λ (last : List Shown). reverse (boxes_from (names stack) (here + stack.count) rest) ++ last) (sym (opened-begun before here stack rest)))

-- what is left from a place on begins with the stack there
pub drop-here : (stacks : List FoldedStack) (k : ℕ) (stack : FoldedStack) → k < length stacks → stack ≡ get_or stacks k stack
    → drop k stacks ≡ stack ∷ drop (k + 1) stacks
drop-here stacks k stack h here = drop_more stacks k stack h ∙ ap (λ (first : FoldedStack). first ∷ drop (k + 1) stacks) (sym here)

pub names-here : (stacks : List FoldedStack) (place k : ℕ) (stack : FoldedStack) → place ≡ suc k → k < length stacks → stack ≡ get_or stacks k stack
    → names_before place stacks ≡ names stack
names-here stacks place k stack at h here = rw at (ap names_at (slice_get_read stacks (length stacks) k stack refl h here))

-- where boxes end, with one stack more
pub place-ends : (stacks : List FoldedStack) (place k here after kept : ℕ) (stack : FoldedStack) (ends more : List ℕ) (texts : List (List ℕ))
    → place ≡ suc k → k < length stacks → stack ≡ get_or stacks k stack → texts ≡ names stack → after ≡ here + stack.count
    → ends ≡ ends_of after (drop place stacks)
    → kept ≡ shared (names_before place stacks) (first_names (drop place stacks))
    → more ≡ take kept ends ++ replicate (length texts - kept) after
    → more ≡ ends_of here (drop k stacks)
place-ends stacks place k here after kept stack ends more texts at h is named sum were cut now =
    let next : place ≡ k + 1 = omega arith in
    let before = names-here stacks place k stack at h is in
    let first = drop-here stacks k stack h is in
    let step = ends-step here after stack (drop (k + 1) stacks) sum in
    now ∙ rw (cut, were, named, before, next, first) (sym step)

-- the boxes, with those of one stack more
pub place-boxes : (stacks : List FoldedStack) (place k here after : ℕ) (stack : FoldedStack) (old new : List Shown) (more : List ℕ) (texts : List (List ℕ))
    → place ≡ suc k → k < length stacks → stack ≡ get_or stacks k stack → texts ≡ names stack → after ≡ here + stack.count
    → old ≡ reverse (boxes_from (names_before place stacks) after (drop place stacks))
    → more ≡ ends_of here (drop k stacks)
    → new ≡ old ++ opened texts more here (shared (names_before k stacks) texts)
    → new ≡ reverse (boxes_from (names_before k stacks) here (drop k stacks))
place-boxes stacks place k here after stack old new more texts at h is named sum were ends now =
    let next : place ≡ k + 1 = omega arith in
    let before = names-here stacks place k stack at h is in
    let first = drop-here stacks k stack h is in
    let step = boxes-step (names_before k stacks) here after stack (drop (k + 1) stacks) sum in
    now ∙ rw (were, ends, named, before, next, first) (sym step)

-- one box more
pub open-one : (lent : List (Bor (List ℕ))) (ends : List ℕ) (start d width : ℕ) (none : Bor (List ℕ)) (old now new : List Shown)
    → 0 < d → d ≤ length lent → width ≡ get_or ends (d - 1) 0 - start
    → now ≡ old ++ opened (texts lent) ends start d
    → new ≡ now ++ record { depth = d - 1; start = start; width = width; name = (get_or lent (d - 1) none).now } ∷ []
    → new ≡ old ++ opened (texts lent) ends start (d - 1)
open-one lent ends start d width none old now new some fits wide were more =
    let f = box_between (texts lent) ends start in
    let k = d - 1 in
    let size = length-map lent (λ (text : Bor (List ℕ)). text.now) in
    let next : k + 1 ≡ d = omega arith in
    let down = reverse_down f k (length (texts lent)) (omega arith) in
    let made : ℕ → List ℕ → Shown = λ w text. record { depth = k; start = start; width = w; name = text } in
    let named = get_or-map (λ (text : Bor (List ℕ)). text.now) lent k none [] (omega arith) in
    let box : f k ≡ made width (get_or lent k none).now = ap (made (get_or ends k 0 - start)) named ∙ ap (λ w. made w (get_or lent k none).now) (sym wide) in
    more ∙ rw were (append_assoc old (opened (texts lent) ends start d) (made width (get_or lent k none).now ∷ [])
    ∙ ap (λ (t : List Shown). old ++ t) (sym (rw (next, box) at down)))

-- a view of a reversed list
pub map-reverse : {X Y : Type 0} (f : X → Y) (xs : List X) → map f (reverse xs) ≡ reverse (map f xs)
map-reverse f [] = refl
map-reverse {X} {Y} f (x ∷ xs) =
    ap (map f) (reverse-append (x ∷ []) xs)
    ∙ map-append f (reverse xs) (x ∷ [])
    ∙ ap (λ (t : List Y). t ++ f x ∷ []) (map-reverse f xs)
    ∙ sym (reverse-append (f x ∷ []) (map f xs))

-- when no stack is left
pub at-end : (stacks : List FoldedStack) (place start : ℕ) (boxes : List Shown) → place ≡ 0 → start ≡ samples (take place stacks)
    → boxes ≡ reverse (boxes_from (names_before place stacks) start (drop place stacks)) → reverse boxes ≡ boxes_of stacks
at-end stacks place start boxes e s b = rw (b, s, e) (reverse-reverse (boxes_of stacks))
