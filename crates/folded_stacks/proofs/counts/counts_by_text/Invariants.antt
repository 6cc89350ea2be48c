use Rattle.std.proofs.Common.{◌≡◌, [], drop, map}
use Rattle.folded_stacks.specs.LineViews.{entry_seen}
use Rattle.folded_stacks.specs.Lines.{all_counted, named}
use Rattle.folded_stacks.specs.StackLists.{counted_seen}
use Rattle.folded_stacks.proofs.counts.counts_by_text.Given as goal

-- the counts so far, and then those of the stacks that are left
abbrev pub invariant-loop-counted : goal.invariant-loop-counted
invariant-loop-counted l =
    all_counted (map (named l.names) (map counted_seen (drop l.counted-index l.stacks))) (map entry_seen l.lines.entries)
    ≡ all_counted (map (named l.names) (map counted_seen l.stacks)) []
