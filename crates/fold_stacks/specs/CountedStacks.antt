-- Stacks that were counted.
use Rattle.std.specs.Prelude.{List, [], map}
use Rattle.folded_stacks.specs.Lines.{Line, all_counted, named}
use Rattle.fold_stacks.specs.FrameNames.{LabelState, no_labels}

-- The names so far, each with a number, with what they were looked up in, and what the samples of each stack count for, by the numbers of its
-- names.
pub record CountedStacks : Type 0 where
  pub labels : LabelState
  pub counts : List Line

-- no names and no samples
abbrev pub no_stacks : CountedStacks
no_stacks = record { labels = no_labels; counts = [] }

-- what the samples of each stack count for, by its text
abbrev pub lines_in : CountedStacks → List Line
lines_in stacks = all_counted (map (named stacks.labels.names) stacks.counts) []
