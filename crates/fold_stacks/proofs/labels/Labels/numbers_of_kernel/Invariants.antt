use Rattle.std.proofs.Common.{take}
use Rattle.std.specs.List.{AllZip}
use Rattle.fold_stacks.specs.FrameNames.{KeepsLabels, NamesKernelFrame}
use Rattle.fold_stacks.proofs.labels.Labels.numbers_of_kernel.Given as goal

-- the numbers so far are those of the names of the frames so far, and what was known is kept
abbrev pub invariant-loop-address : goal.invariant-loop-address
invariant-loop-address g l = record {
  named : AllZip (NamesKernelFrame l.self l.addresses) (take l.address-index l.frames) l.numbers.items;
  kept : KeepsLabels l.fn.self l.self;
}
