use Rattle.std.proofs.Common.{◌≡◌, length}
use Rattle.elf_files.specs.BuildIds.{build_id_in}
use Rattle.elf_files.proofs.build_id.build_id_in.Given as goal

abbrev pub invariant-notes : goal.invariant-notes
invariant-notes l = build_id_in l.left ≡ build_id_in l.fn.notes

abbrev pub decreases-notes : goal.decreases-notes
decreases-notes l = length l.left
