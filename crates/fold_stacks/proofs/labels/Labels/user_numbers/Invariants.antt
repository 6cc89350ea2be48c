use Rattle.std.proofs.Common.{take}
use Rattle.std.specs.List.{AllZip}
use Rattle.fold_stacks.specs.FrameNames.{KeepsLabels, NamesFrame}
use Rattle.fold_stacks.proofs.labels.Labels.user_numbers.Given as goal

-- the numbers so far are those of the names of the frames so far, and what was known is kept
abbrev pub invariant-loop-frame : goal.invariant-loop-frame
invariant-loop-frame g l = record {
  named : AllZip (NamesFrame l.self l.addresses) (take l.frame-index l.frames) l.numbers.items;
  kept : KeepsLabels l.fn.self l.self;
}
