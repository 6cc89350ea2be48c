use Rattle.std.proofs.Common.{◌≡◌, take}
use Rattle.framehop_unwinder.proofs.unwinder.clones_of.Given as goal

-- the modules so far
abbrev pub invariant-loop-module : goal.invariant-loop-module
invariant-loop-module g l = l.clones.items ≡ take l.module-index l.modules
