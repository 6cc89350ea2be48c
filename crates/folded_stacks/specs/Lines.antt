-- Folded stacks: a line for each different stack, with how many samples have it.
use Rattle.std.specs.Prelude.{ℕ, ◌+◌, ◌-◌, ◌^◌, min, if◌then◌else◌, bytes_eq, Bool, true, false, List, [], ◌∷◌, ◌++◌, codes, decimal, reverse, Option, Some, None}
use Rattle.std.specs.Cmp.Lexicographic.{slice_cmp}
use Rattle.std.specs.Ordering.{match_ordering, nat_cmp}
use Rattle.folded_stacks.specs.FrameNames.{name_at}

-- A stack and how many samples have it. The stack is its text, or the numbers of its names.
pub record Line : Type 0 where
  pub stack : List ℕ
  pub count : ℕ

-- ---- counts

-- how many samples have a stack, if some do
abbrev pub count_of : List ℕ → List Line → Option ℕ
count_of stack [] = None
count_of stack (line ∷ lines) = if bytes_eq stack line.stack then Some line.count else count_of stack lines

-- a count with so many samples more: it has 64 bits, and stays at the most of these
abbrev pub more_than : Option ℕ → ℕ → ℕ
more_than None samples = samples
more_than (Some count) samples = min (count + samples) (2 ^ 64 - 1)

-- lines with this one: in the order of the stacks' numbers or bytes, and in place of another of its stack
abbrev pub with_line : Line → List Line → List Line
with_line line [] = line ∷ []
with_line line (other ∷ others) =
    match_ordering (slice_cmp nat_cmp line.stack other.stack) (line ∷ other ∷ others) (record { stack = other.stack; count = line.count } ∷ others)
    (other ∷ with_line line others)

-- lines after so many samples more of a stack
abbrev pub counted : Line → List Line → List Line
counted more lines = with_line (record { stack = more.stack; count = more_than (count_of more.stack lines) more.count }) lines

-- the same, by the stack and the samples
abbrev pub with_samples : List ℕ → ℕ → List Line → List Line
with_samples stack samples lines = counted (record { stack = stack; count = samples }) lines

-- lines after all of these, in their order
abbrev pub all_counted : List Line → List Line → List Line
all_counted [] lines = lines
all_counted (more ∷ others) lines = all_counted others (counted more lines)

-- ---- text

-- names by their numbers, each but the first of all behind a semicolon
abbrev pub names_text : Bool → List (List ℕ) → List ℕ → List ℕ
names_text is_first names [] = []
names_text is_first names (number ∷ numbers) =
    (if is_first then [] else codes ";") ++ name_at names number ++ names_text false names numbers

-- a stack by its names' numbers, of which the innermost frame's is the first, as text from the outermost on
abbrev pub stack_text : List (List ℕ) → List ℕ → List ℕ
stack_text names numbers = names_text true names (reverse numbers)

-- its line
abbrev pub named : List (List ℕ) → Line → Line
named names line = record { stack = stack_text names line.stack; count = line.count }

-- a line: the stack, a space and the count
abbrev pub line_text : Line → List ℕ
line_text line = line.stack ++ codes " " ++ decimal line.count ++ codes "\n"

-- lines
abbrev pub lines_text : List Line → List ℕ
lines_text [] = []
lines_text (line ∷ lines) = line_text line ++ lines_text lines
