use Rattle.std.proofs.Common.{◌≡◌, ◌++◌, drop}
use Rattle.perf_files.specs.declared.chain.Context.TheVariants.{User}
use Rattle.perf_files.specs.Chains.{chain_frames}
use Rattle.perf_files.proofs.chain.push_frames.Given as goal

-- the frames so far, with those of the words that are left
abbrev pub invariant-loop-index : goal.invariant-loop-index
invariant-loop-index l = l.frames.items ++ chain_frames l.context (drop l.index l.chain) ≡ l.initial.frames.items ++ chain_frames User l.chain
