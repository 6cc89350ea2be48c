use Rattle.std.proofs.Common.{◌≡◌, ◌-◌, ◌*◌, ◌/◌, length}
use Rattle.elf_files.specs.Tables.{entries}
use Rattle.elf_segments.specs.Dynamic.{all_entries, entry_from, value_among}
use Rattle.elf_segments.proofs.dynamic.value_among.Given as goal

-- the value among those that are left is that among all
abbrev pub invariant-loop-index : goal.invariant-loop-index
invariant-loop-index l =
    value_among l.tag (entries (λ index. entry_from l.bytes (16 * index)) l.index (length l.bytes / 16 - l.index))
    ≡ value_among l.tag (all_entries l.bytes)
