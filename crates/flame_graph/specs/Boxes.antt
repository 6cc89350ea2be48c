-- The boxes of a flame graph. A box at a depth stands for stacks side by side that have the same first names, one more than its depth:
-- it begins after the samples of the stacks before them, and is as wide as their samples.
use Rattle.std.specs.Prelude.{◌≡◌, ℕ, ◌+◌, ◌-◌, ◌^◌, ◌≤◌, List, [], ◌∷◌, ◌++◌, length, map, get_or, nat_lt, if◌then◌else◌, Result, Ok, Err, Vec}
use Rattle.std.specs.Global.{Global}
use Rattle.std.specs.List.{range_with_len}
use Rattle.flame_graph.specs.declared.stack.FoldedStack.{FoldedStack}
use Rattle.flame_graph.specs.declared.boxes.FlameBox.{FlameBox}
use Rattle.flame_graph.specs.declared.error.FlameError.{FlameError}
use Rattle.flame_graph.specs.declared.error.FlameError.TheVariants.{OutOfMemory, TooManySamples}
use Rattle.flame_graph.specs.Stacks.{names, samples, shared}

-- A box, with the bytes of its name.
pub record Shown : Type 0 where
  pub depth : ℕ
  pub start : ℕ
  pub width : ℕ
  pub name : List ℕ

abbrev pub box_view : FlameBox → Shown
box_view flame = record { depth = flame.depth; start = flame.start; width = flame.width; name = flame.name.now }

-- the boxes of a list
abbrev pub boxes_seen : Vec FlameBox Global → List Shown
boxes_seen boxes = map box_view boxes.items

-- The samples of the stacks at the front that share more names with a stack than the depth says.
abbrev pub run_of : ℕ → List (List ℕ) → List FoldedStack → ℕ
run_of depth first [] = 0
run_of depth first (next ∷ rest) =
    if nat_lt depth (shared first (names next)) then next.count + run_of depth first rest else 0

-- The box of a stack at a depth, with the stacks after it that share its name there and those before.
abbrev pub box_of : ℕ → FoldedStack → List FoldedStack → ℕ → Shown
box_of start stack rest depth = record {
  depth = depth;
  start = start;
  width = stack.count + run_of depth (names stack) rest;
  name = get_or (names stack) depth [];
}

-- The boxes that begin with a stack: those of the names that it doesn't share with the stack before it.
abbrev pub begun : List (List ℕ) → ℕ → FoldedStack → List FoldedStack → List Shown
begun before start stack rest =
    let kept = shared before (names stack) in
    map (box_of start stack rest) (range_with_len kept (length (names stack) - kept))

-- The boxes that begin with one of some stacks, after a stack with names and after so many samples.
abbrev pub boxes_from : List (List ℕ) → ℕ → List FoldedStack → List Shown
boxes_from before start [] = []
boxes_from before start (stack ∷ rest) = begun before start stack rest ++ boxes_from (names stack) (start + stack.count) rest

-- The boxes of stacks.
abbrev pub boxes_of : List FoldedStack → List Shown
boxes_of stacks = boxes_from [] 0 stacks

-- A call returned the boxes of stacks, or their samples are too many for 64 bits, unless memory ran out.
abbrev pub BoxesAre : List FoldedStack → Result (Vec FlameBox Global) FlameError → Type 0
BoxesAre stacks (Ok found) = map box_view found.items ≡ boxes_of stacks
BoxesAre stacks (Err TooManySamples) = 2 ^ 64 ≤ samples stacks
BoxesAre stacks (Err OutOfMemory) = Unit {0}
