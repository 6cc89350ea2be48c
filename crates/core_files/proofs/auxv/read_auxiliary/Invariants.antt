use Rattle.std.proofs.Common.{◌≡◌, ◌-◌, ◌/◌, length}
use Rattle.core_files.specs.Auxv.{auxiliary_value}
use Rattle.core_files.proofs.Auxiliary.{value_from}
use Rattle.core_files.proofs.auxv.read_auxiliary.Given as goal

abbrev pub invariant-loop-entry : goal.invariant-loop-entry
invariant-loop-entry l = auxiliary_value l.descriptor l.kind ≡ value_from l.descriptor l.kind l.entry (length l.descriptor / 16 - l.entry)
