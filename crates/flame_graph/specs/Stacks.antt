-- Folded stacks: names with semicolons between them, from the outermost to the innermost, and the samples that have them.
use Rattle.std.specs.Prelude.{◌≡◌, ℕ, ◌^◌, ◌<◌, ◌≤◌, List, map, Result, Ok, Err, nat_eq, ◌==◌}
use Rattle.std.specs.Borrow.{Bor}
use Rattle.std.specs.Cmp.Lexicographic.{pointwise}
use Rattle.std.specs.List.{common_prefix_len, slice_split, sum_by}
use Rattle.flame_graph.specs.declared.stack.FoldedStack.{FoldedStack}
use Rattle.flame_graph.specs.declared.error.FlameError.{FlameError}
use Rattle.flame_graph.specs.declared.error.FlameError.TheVariants.{OutOfMemory, TooManySamples}

-- The names in a text: what stands between semicolons.
abbrev pub names_of : List ℕ → List (List ℕ)
names_of text = slice_split (λ byte. byte == 59) text

-- The names of a stack.
abbrev pub names : FoldedStack → List (List ℕ)
names stack = names_of stack.text.items

-- How many names at the front two stacks share.
abbrev pub shared : List (List ℕ) → List (List ℕ) → ℕ
shared left right = common_prefix_len (pointwise nat_eq) left right

-- The samples of all stacks.
abbrev pub samples : List FoldedStack → ℕ
samples stacks = sum_by (λ stack. stack.count) stacks

-- A call returned the samples of all stacks, or they are too many for 64 bits.
abbrev pub Totals : List FoldedStack → Result ℕ FlameError → Type 0
Totals stacks (Ok total) = (total ≡ samples stacks) × (samples stacks < 2 ^ 64)
Totals stacks (Err TooManySamples) = 2 ^ 64 ≤ samples stacks
Totals stacks (Err OutOfMemory) = ⊥

-- Texts that are lent, as lists of bytes.
abbrev pub texts : List (Bor (List ℕ)) → List (List ℕ)
texts lent = map (λ text. text.now) lent
