-- What was taken of a record: a change of processes, or a sample that was counted.
use Rattle.std.specs.Prelude.{ℕ, List, Option, Some, None, option_map}
use Rattle.folded_stacks.specs.Lines.{Line, counted}
use Rattle.perf_processes.specs.declared.change.Change.{Change}
use Rattle.fold_stacks.specs.declared.taken.CountedSample.{CountedSample}
use Rattle.fold_stacks.specs.declared.taken.Taken.{Taken}
use Rattle.fold_stacks.specs.declared.taken.Taken.TheVariants.{Changed, Counted, Nothing}

-- the change, if there was one
abbrev pub change_in : Taken → Option Change
change_in (Changed change) = Some change
change_in (Counted sample) = None
change_in Nothing = None

-- a sample as a line of its own
abbrev pub sample_line : CountedSample → Line
sample_line sample = record { stack = sample.stack.items; count = sample.weight }

-- the sample that was counted, if one was
abbrev pub counted_in : Taken → Option Line
counted_in (Changed change) = None
counted_in (Counted sample) = Some (sample_line sample)
counted_in Nothing = None

-- what it counts for
abbrev pub weight_in : Taken → Option ℕ
weight_in taken = option_map (λ sample. sample.count) (counted_in taken)

-- counts after a sample more, if there is one
abbrev pub counted_if : Option Line → List Line → List Line
counted_if (Some sample) lines = counted sample lines
counted_if None lines = lines
