use Rattle.std.proofs.Common.{◌≡◌, ◌++◌, drop, map}
use Rattle.std.specs.List.{filter}
use Rattle.perf_files.specs.declared.chain.ChainFrame.{ChainFrame}
use Rattle.sample_stacks.specs.KernelFrames.{is_kernel}
use Rattle.sample_stacks.proofs.kernel.push_kernel_frames.Given as goal

-- the addresses, with those of the frames that are left
abbrev pub invariant-loop-frame : goal.invariant-loop-frame
invariant-loop-frame l =
    l.addresses.items ++ map (λ (frame : ChainFrame). frame.address) (filter is_kernel (drop l.frame-index l.frame-items))
    ≡ l.initial.addresses.items ++ map (λ (frame : ChainFrame). frame.address) (filter is_kernel l.frame-items)
