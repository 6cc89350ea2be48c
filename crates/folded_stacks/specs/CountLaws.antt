-- What the lines of samples are: each stack once, in order, with what its samples count for.
use Rattle.std.specs.Prelude.{◌≡◌, ℕ, ◌+◌, ◌-◌, ◌^◌, ◌<◌, min, bytes_eq, if◌then◌else◌, List, [], ◌∷◌, map, unwrap_or}
use Rattle.std.specs.Cmp.Lexicographic.{slice_cmp}
use Rattle.std.specs.List.{AllByRecursion}
use Rattle.std.specs.List.Sorted.{IsStrictlySortedBy}
use Rattle.std.specs.Ordering.{nat_cmp}
use Rattle.folded_stacks.specs.Lines.{Line, all_counted, count_of}

-- what the samples of a stack count for
abbrev pub samples_of : List ℕ → List Line → ℕ
samples_of stack [] = 0
samples_of stack (sample ∷ samples) = (if bytes_eq stack sample.stack then sample.count else 0) + samples_of stack samples

-- A stack counts what its samples do, as far as 64 bits have room; one without samples has no line.
abbrev pub CountsAreSums : Type 0
CountsAreSums = (samples : List Line) (stack : List ℕ) → AllByRecursion (λ sample. sample.count < 2 ^ 64) samples
    → unwrap_or (count_of stack (all_counted samples [])) 0 ≡ min (samples_of stack samples) (2 ^ 64 - 1)

-- Each line's stack comes before those of the lines behind it, and so none is there twice.
abbrev pub LinesAreInOrder : Type 0
LinesAreInOrder = (samples : List Line) → IsStrictlySortedBy (slice_cmp nat_cmp) (map (λ line. line.stack) (all_counted samples []))

-- a line by another name of its stack
abbrev pub as_text : (List ℕ → List ℕ) → Line → Line
as_text text line = record { stack = text line.stack; count = line.count }

-- Samples that are counted by one name of their stacks, and then by another, are counted by the other one at once.
abbrev pub TextsAreCounted : Type 0
TextsAreCounted = (text : List ℕ → List ℕ) (samples : List Line)
    → all_counted (map (as_text text) (all_counted samples [])) [] ≡ all_counted (map (as_text text) samples) []
