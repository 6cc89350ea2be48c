-- The boxes of one stack, as they are opened from the last stack to the first: each by where it ends.
use Rattle.std.specs.Prelude.{ℕ, suc, zero, ◌+◌, ◌-◌, List, [], ◌∷◌, length, map, reverse, get_or, slice_get, Option, Some, None}
use Rattle.std.specs.List.{range_with_len}
use Rattle.flame_graph.specs.declared.stack.FoldedStack.{FoldedStack}
use Rattle.flame_graph.specs.Boxes.{Shown, run_of}
use Rattle.flame_graph.specs.Stacks.{names}

-- The box of names at a depth that begins and ends after so many samples.
abbrev pub box_between : List (List ℕ) → List ℕ → ℕ → ℕ → Shown
box_between texts ends start depth = record {
  depth = depth;
  start = start;
  width = get_or ends depth 0 - start;
  name = get_or texts depth [];
}

-- The boxes of names that don't belong to the stack before, from the innermost to the outermost.
abbrev pub opened : List (List ℕ) → List ℕ → ℕ → ℕ → List Shown
opened texts ends start kept = reverse (map (box_between texts ends start) (range_with_len kept (length texts - kept)))

-- Where the boxes of the first of some stacks end, at each of its names, if it begins after so many samples.
abbrev pub ends_of : ℕ → List FoldedStack → List ℕ
ends_of start [] = []
ends_of start (stack ∷ rest) =
    map (λ depth. start + (stack.count + run_of depth (names stack) rest)) (range_with_len 0 (length (names stack)))

-- The names of the stack at a place, or none.
abbrev pub names_at : Option FoldedStack → List (List ℕ)
names_at None = []
names_at (Some stack) = names stack

-- The names of the stack before a place, or none at the first.
abbrev pub names_before : ℕ → List FoldedStack → List (List ℕ)
names_before zero stacks = []
names_before (suc place) stacks = names_at (slice_get stacks place)

-- The names of the first stack, or none.
abbrev pub first_names : List FoldedStack → List (List ℕ)
first_names [] = []
first_names (stack ∷ rest) = names stack
