-- The frames of the kernel in a call chain.
use Rattle.std.specs.Prelude.{ℕ, Bool, true, false, List, map}
use Rattle.std.specs.List.{filter}
use Rattle.perf_files.specs.Chains.{chain_frames}
use Rattle.perf_files.specs.declared.chain.ChainFrame.{ChainFrame}
use Rattle.perf_files.specs.declared.chain.Context.{Context}
use Rattle.perf_files.specs.declared.chain.Context.TheVariants.{User, Kernel}

-- a context is the kernel's
abbrev pub is_kernel_context : Context → Bool
is_kernel_context Kernel = true
is_kernel_context _ = false

-- a frame is the kernel's
abbrev pub is_kernel : ChainFrame → Bool
is_kernel frame = is_kernel_context frame.context

-- the addresses of the frames of the kernel, from the innermost on
abbrev pub kernel_addresses : List ℕ → List ℕ
kernel_addresses chain = map (λ frame. frame.address) (filter is_kernel (chain_frames User chain))
