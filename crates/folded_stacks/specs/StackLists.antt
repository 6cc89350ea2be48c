-- Counted stacks in the order in which they came.
use Rattle.std.specs.Prelude.{◌≡◌, ℕ, List, [], map, option_map, slice_get, Some}
use Rattle.folded_stacks.specs.Lines.{Line, all_counted, named, with_samples}
use Rattle.folded_stacks.specs.declared.stack_slots.CountedStack.{CountedStack}

-- a stack with its count
abbrev pub counted_seen : CountedStack → Line
counted_seen counted = record { stack = counted.stack.items; count = counted.count }

-- the lines of such a list
abbrev pub lines_seen : List CountedStack → List Line
lines_seen stacks = all_counted (map counted_seen stacks) []

-- a stack is at a place of a list
abbrev pub HasStackAt : List CountedStack → ℕ → List ℕ → Type 0
HasStackAt stacks place stack = option_map (λ counted. counted.stack.items) (slice_get stacks place) ≡ Some stack

-- A list's lines are those before with samples more of a stack.
abbrev pub CountsStack : List ℕ → ℕ → List CountedStack → List CountedStack → Type 0
CountsStack stack samples old new = lines_seen new ≡ with_samples stack samples (lines_seen old)

-- the lines of a list, by the texts of the stacks
abbrev pub text_lines : List (List ℕ) → List CountedStack → List Line
text_lines names stacks = all_counted (map (named names) (map counted_seen stacks)) []
