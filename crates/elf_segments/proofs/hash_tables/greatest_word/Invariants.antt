use Rattle.std.proofs.Common.{◌≡◌, ◌-◌, ◌*◌, ◌/◌, length}
use Rattle.std.specs.Prelude.{fold, max}
use Rattle.elf_files.specs.Bytes.{number_at}
use Rattle.elf_files.specs.Tables.{entries}
use Rattle.elf_segments.specs.HashTables.{words}
use Rattle.elf_segments.proofs.hash_tables.greatest_word.Given as goal

-- the greatest so far, with the words that are left
abbrev pub invariant-loop-index : goal.invariant-loop-index
invariant-loop-index l =
    fold max l.greatest (entries (λ index. number_at 4 l.bytes (4 * index)) l.index (length l.bytes / 4 - l.index))
    ≡ fold max 0 (words l.bytes)
