use Rattle.std.proofs.Common.{ℕ, ◌+◌, ◌<◌, ◌≤◌, get_or}
use Rattle.core_files.specs.declared.mapped_files.MappedFile.{MappedFile}
use Rattle.core_images.proofs.mappings.size_before_next.Given as goal

abbrev pub invariant-loop-mapping : goal.invariant-loop-mapping
invariant-loop-mapping l = record {
  most : l.left ≤ l.size;
  some : 0 < l.size → 0 < l.left;
  none : (i : ℕ) (d : MappedFile) → i < l.mapping-index → l.offset < (get_or l.mappings i d).offset → l.offset + l.left ≤ (get_or l.mappings i d).offset;
}
