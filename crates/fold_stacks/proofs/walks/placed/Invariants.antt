use Rattle.std.proofs.Common.{◌≡◌, ◌++◌, drop, map}
use Rattle.fold_stacks.specs.Frames.{unplaced, without_place}
use Rattle.fold_stacks.proofs.walks.placed.Given as goal

-- the frames so far, and then those at the addresses that are left
abbrev pub invariant-loop-address : goal.invariant-loop-address
invariant-loop-address l =
    map without_place l.frames.items ++ map unplaced (drop l.address-index l.addresses) ≡ map unplaced l.addresses
