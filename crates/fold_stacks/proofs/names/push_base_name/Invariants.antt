use Rattle.std.proofs.Common.{◌≡◌, drop}
use Rattle.fold_stacks.specs.FrameTexts.{base_from}
use Rattle.fold_stacks.proofs.names.push_base_name.Given as goal

-- what the bytes that are left make of the part so far
abbrev pub invariant-loop-byte : goal.invariant-loop-byte
invariant-loop-byte l = base_from l.base.items (drop l.byte-index l.path) ≡ base_from l.initial.base.items l.path
