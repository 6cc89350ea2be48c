-- The samples of boxes and of stacks by depth.
use Rattle.std.specs.Prelude.{ℕ, ◌==◌, List, length, nat_lt, if◌then◌else◌}
use Rattle.std.specs.List.{sum_by}
use Rattle.flame_graph.specs.declared.stack.FoldedStack.{FoldedStack}
use Rattle.flame_graph.specs.Boxes.{Shown}
use Rattle.flame_graph.specs.Stacks.{names}

-- The widths of the boxes at a depth.
abbrev pub width_at : ℕ → Shown → ℕ
width_at depth shown = if shown.depth == depth then shown.width else 0

abbrev pub widths_at : ℕ → List Shown → ℕ
widths_at depth boxes = sum_by (width_at depth) boxes

-- The samples of the stacks that have more names than a depth says.
abbrev pub deep_count : ℕ → FoldedStack → ℕ
deep_count depth stack = if nat_lt depth (length (names stack)) then stack.count else 0

abbrev pub deep_samples : ℕ → List FoldedStack → ℕ
deep_samples depth stacks = sum_by (deep_count depth) stacks
